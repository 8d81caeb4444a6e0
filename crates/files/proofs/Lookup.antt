-- The place of a pair among a request's, four bytes each, and what the target that is this pair alone comes to.
use Prim.Native.Nat.{ℕ, zero, suc, ◌-◌, ◌/◌, ◌%◌, ◌≤◌, ◌<◌}
use mathlib.Core.Path.{◌≡◌, sym, ap, ◌∙◌}
use mathlib.Core.Bool.{true, false}
use mathlib.Core.List.{List, [], ◌∷◌, map}
use native.Mathlib.Omega.{arith}
use lib.Dec.{ltb}
use lib.ListN.{length, get_or, length-map, get_or-map}
use borrow.Author.Tests.{ltb-true, ltb-false}
use mir.Syntax.{w8, w32}
use mir.Val.{Fits}
use Rattle.std.specs.Int.{from_be_bytes}
use Rattle.std.specs.List.Sorted.{IsNonDecreasingBy, IsPartitionPoint}
use Rattle.ptacl.specs.Value.{Value, v1, v0, v_u}
use Rattle.ptacl.specs.Request.{Request, below}
use Rattle.ptacl.specs.Meaning.{atom_at}
use Rattle.ptacl.specs.Pairs.{packed, unpacked}
use Rattle.files.specs.Encoding.{InRange}
use Rattle.files.specs.Ordered.{Ordered, PlaceOf}
use Rattle.files.specs.Tags.{pair_in, pair_of}
use Rattle.files.specs.Views.{Ascends, IsPairAt, IsNameAt}
use Rattle.files.specs.declared.pair.Pair.{Pair}
use Rattle.std.proofs.lemmas.List.{get_or_default}
use Rattle.files.proofs.Numbers.{below_packed, map_unpacked_packed}
use Rattle.files.proofs.BigEndian.{dec16_range}
use Rattle.files.proofs.Framing.{lent_bytes}
use Rattle.files.proofs.Ordered.{rises_on, atom_one, atom_zero, atom_missing}

abbrev pub number : List ℕ → ℕ
number b = from_be_bytes w32 b

number_packed : (b : List ℕ) → number b ≡ packed (pair_in b)
number_packed b = omega arith

pub above_number : (a b : List ℕ) → ((i : ℕ) → Fits w8 (get_or a i 0)) → ((i : ℕ) → Fits w8 (get_or b i 0))
    → below (pair_in a) (pair_in b) ≡ ltb (number a) (number b)
above_number a b f g =
    rw (number_packed a, number_packed b) (below_packed _ _ (dec16_range (lent_bytes f) 2) (dec16_range (lent_bytes g) 2))

value_small : (xs : Request) → InRange xs → (k : ℕ) → (get_or xs k (0, 0)).1 < 65536
unfolding InRange
value_small [] r k = omega arith
value_small (x ∷ xs) r zero = r.1
value_small (x ∷ xs) r (suc k) = value_small xs r.2 k

module _ (ps : List (List ℕ)) (f : Ascends (map pair_in ps)) where
  abbrev numbers : List ℕ
  numbers = map packed (map pair_in ps)

  numbers_length : length numbers ≡ length ps
  numbers_length = length-map (map pair_in ps) packed ∙ length-map ps pair_in

  nth : (k : ℕ) (d : List ℕ) → k < length ps → number (get_or ps k d) ≡ get_or numbers k 0
  nth k d h =
      let a = get_or-map packed (map pair_in ps) k (0, 0) in
      let b = get_or-map pair_in ps k [] in
      number_packed (get_or ps k d) ∙ ap (λ x. packed (pair_in x)) (get_or_default ps k d [] h) ∙ sym (a ∙ ap packed b)

  ordered : Ordered numbers
  ordered = record { rises = rw (map_unpacked_packed (map pair_in ps) f.range) f.ordered }

  pub non_decreasing : IsNonDecreasingBy number ps
  non_decreasing i j d h k =
      rw (nth i d (omega arith), nth j d k) (rises_on ordered i j h (omega (arith, numbers_length)))

  pub placed : (x place : ℕ) → place ≤ length ps → IsPartitionPoint (λ b. ltb (number b) x ≡ true) (λ b. ltb (number b) x ≡ false) ps place
      → PlaceOf numbers x place
  placed x place most point = record {
    most = omega (arith, numbers_length);
    before = λ k l. let n = nth k [] (omega arith) in omega (arith, ltb-true _ _ (point.0 k [] (omega arith) l));
    behind = λ k l m. let n = nth k [] (omega (arith, numbers_length)) in omega (arith, ltb-false _ _ (point.1 k [] l (omega (arith, numbers_length))));
  }

-- the target that is a pair alone, by the pairs at its place and just before it
module _ (q : Request) (pair : Pair) (i : ℕ) (f : Ascends q) (small : pair.value < 65536) (at : PlaceOf (map packed q) (packed (pair_of pair)) i) where
  abbrev x : ℕ
  x = packed (pair_of pair)

  abbrev Is : Value → Type 0
  Is v = v ≡ atom_at q pair.name pair.value

  is : {v : Value} → v ≡ atom_at (map unpacked (map packed q)) (x / 65536) (x % 65536) → Is v
  is e =
      let a : x / 65536 ≡ pair.name = omega arith in
      let b : x % 65536 ≡ pair.value = omega arith in
      rw (map_unpacked_packed q f.range, a, b) at e

  sorted : Ordered (map packed q)
  sorted = record { rises = rw (map_unpacked_packed q f.range) f.ordered }

  long : length (map packed q) ≡ length q
  long = length-map q packed

  -- what stands at a place, as a number
  stands : (k : ℕ) → (get_or (map packed q) k 0 ≡ packed (get_or q k (0, 0))) × (get_or (map packed q) k 0 / 65536 ≡ (get_or q k (0, 0)).0)
  stands k =
      let e = get_or-map packed q k (0, 0) in
      let r = value_small q f.range k in
      (e, omega (arith, e))

  pub found_one : IsPairAt q i (pair_of pair) → Is v1
  found_one h = is (atom_one sorted x i at (omega (arith, long, h.0)) ((stands i).0 ∙ ap packed h.1))

  other : (IsPairAt q i (pair_of pair) → ⊥) → i < length (map packed q) → get_or (map packed q) i 0 ≡ x → ⊥
  other n h e =
      let s = stands i in
      let a : (get_or q i (0, 0)).0 ≡ pair.name = omega (arith, s.0, s.1) in
      let b : (get_or q i (0, 0)).1 ≡ pair.value = omega (arith, s.0, s.1) in
      n (omega (arith, long), rw (← a, ← b))

  pub found_zero : (k : ℕ) → IsNameAt q k pair.name → (IsPairAt q i (pair_of pair) → ⊥) → Is v0
  found_zero k h n = is (atom_zero sorted x i at k (omega (arith, long, h.0)) ((stands k).1 ∙ omega (arith, h.1)) (other n))

  pub missing : (IsNameAt q i pair.name → ⊥) → (0 < i → IsNameAt q (i - 1) pair.name → ⊥) → Is v_u
  missing n m =
      is (atom_missing sorted x i at
      (λ l e. n (omega (arith, long), sym (stands i).1 ∙ e ∙ omega arith))
      (λ l e. m l (omega (arith, long, at.most), sym (stands (i - 1)).1 ∙ e ∙ omega arith)))

pub ruleset value_laws = (found_one, found_zero, missing)
