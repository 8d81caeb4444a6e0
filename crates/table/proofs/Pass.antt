-- The pass over the pairs for an atom: in each lane, whether a pair of its request passes a test.
use Prim.Native.Nat.{ℕ, ◌+◌, ◌-◌, ◌^◌, ◌≤◌, ◌<◌}
use mathlib.Core.Path.{◌≡◌, refl, sym, ap, ◌∙◌}
use mathlib.Core.Bool.{Bool, true, false, cond, not, ◌&&◌, ◌||◌, or-false, or_assoc, and-true, and-false}
use mathlib.Core.List.{List, [], ◌∷◌, map}
use native.Mathlib.Numerals.{add-one}
use lib.Bits.{bit_and, bit_or}
use lib.Lanes.{zip2, Each1}
use mir.Syntax.{w64}
use mir.Val.{Fits}
use lib.Dec.{eqb}
use lib.ListN.{length, get_or, drop, replicate, drop_of_length-le, length-map}
use lib.Seq.{drop-cons}
use borrow.Author.Tests.{eq-eqb, ne_eqb}
use Rattle.ptacl.specs.Value.{v1, v0, v_u}
use Rattle.ptacl.specs.Values.{single}
use Rattle.ptacl.specs.Request.{Pair, Request, same_pair, holds, has}
use Rattle.ptacl.specs.Meaning.{atom_at}
use Rattle.files.specs.Tags.{pair_of}
use Rattle.table.specs.declared.row.PairRow.{PairRow}
use Rattle.table.specs.Rows.{lane, request, requests, no_row, target_at, targets, of_target}
use Rattle.table.proofs.Lanes.{long_of, lane_none, lane_and, lane_or, lane_not, by_one}

-- some pair of the request passes the test
abbrev pub any : (Pair → Bool) → Request → Bool
any f [] = false
any f (x ∷ xs) = f x || any f xs

any_holds : (xs : Request) (y : Pair) → holds xs y ≡ any (λ x. same_pair x y) xs
any_holds [] y = refl
any_holds (x ∷ xs) y = ap (λ b. same_pair x y || b) (any_holds xs y)

any_has : (xs : Request) (n : ℕ) → has xs n ≡ any (λ x. eqb x.0 n) xs
any_has [] n = refl
any_has (x ∷ xs) n = ap (λ b. eqb x.0 n || b) (any_has xs n)

-- before pair i: what the row has, and what is still to come
pub record Passed (f : Pair → Bool) (rows : List PairRow) (r : List ℕ) (i : ℕ) : Type 0 where
  pub at : (j : ℕ) → j < 512 → (lane r j || any f (request (drop i rows) j)) ≡ any f (request rows j)

pub pass_start : (f : Pair → Bool) (rows : List PairRow) → Passed f rows (replicate 8 0) 0
pass_start f rows = record { at = λ j h. rw (lane_none j h) }

any_if : (f : Pair → Bool) (b : Bool) (x : Pair) (xs : Request) → any f (cond b (x ∷ xs) xs) ≡ (b && f x || any f xs)
any_if f true x xs = refl
any_if f false x xs = refl

module _ {f : Pair → Bool} {rows : List PairRow} {r : List ℕ} {i : ℕ} (s : Passed f rows r i) where
  module _ (l : i < length rows) where
    abbrev here : PairRow
    here = get_or rows i no_row

    abbrev rest : ℕ → Request
    rest j = request (drop (i + 1) rows) j

    next : (j : ℕ) → j < 512 → (lane r j || (lane here.held j && f (pair_of here.pair) || any f (rest j))) ≡ any f (request rows j)
    unfolding request
    next j h =
        let e : request (drop i rows) j ≡ cond (lane here.held j) (pair_of here.pair ∷ rest j) (rest j) = rw (drop-cons rows i no_row l, add-one i) in
        ap (λ b. lane r j || b) (sym (ap (any f) e ∙ any_if f (lane here.held j) (pair_of here.pair) (rest j))) ∙ s.at j h

    pub pass_over : f (pair_of here.pair) ≡ false → Passed f rows r (i + 1)
    pass_over e = record { at = λ j h. rw (e, and-false (lane here.held j)) at (next j h) }

    pub pass_with : f (pair_of here.pair) ≡ true → length r ≡ 8 → {x : List ℕ} → x ≡ here.held → length x ≡ 8 → Passed f rows (zip2 bit_or r x) (i + 1)
    pass_with e m {x} is n = record {
      at = λ j h.
          let k = next j h in
          rw (lane_or r x m n j h, is) (or_assoc (lane r j) (lane here.held j) (any f (rest j)) ∙ (rw (e, and-true (lane here.held j)) at k));
    }

  pass_end : length rows ≤ i → (j : ℕ) → j < 512 → lane r j ≡ any f (request rows j)
  unfolding request
  pass_end l j h = sym (or-false (lane r j)) ∙ (rw (drop_of_length-le rows l) at (s.at j h))

-- the atom is 1 where its pair is held, 0 where only its name is had
atom_bits : (b c : Bool) → of_target b (c && not b) ≡ single (cond b v1 (cond c v0 v_u))
atom_bits true true = refl
atom_bits true false = refl
atom_bits false true = refl
atom_bits false false = refl

pub atom_law : (rows : List PairRow) (x : Pair) {held named : List ℕ} {i : ℕ} → length rows ≤ i → (length held ≡ 8) × Each1 (Fits w64) held → length named ≡ 8
    → Passed (λ y. same_pair y x) rows held i → Passed (λ y. eqb y.0 x.0) rows named i
    → targets (record { is1 = held; is0 = zip2 bit_and named (map (λ x. 2 ^ 64 - 1 - x) held) }) ≡ map (λ q. single (atom_at q x.0 x.1)) (requests rows)
unfolding target_at
atom_law rows x {held} {named} l k n p q =
    let m = long_of held k in
    by_one (λ q. single (atom_at q x.0 x.1)) _ (request rows) (λ j h.
    rw (
      lane_and named _ n (length-map held (λ x. 2 ^ 64 - 1 - x) ∙ m.0) j h,
      lane_not held m j h,
      pass_end p l j h ∙ sym (any_holds (request rows j) x),
      pass_end q l j h ∙ sym (any_has (request rows j) x.0),
    )
    (atom_bits (holds (request rows j) x) (has (request rows j) x.0)))

-- a pair by the tests of its name and its value
pub same_of : (x y : Pair) → x.0 ≡ y.0 → x.1 ≡ y.1 → same_pair x y ≡ true
same_of x y e f = rw (eq-eqb x.0 y.0 e, eq-eqb x.1 y.1 f)

pub other_name : (x y : Pair) → (x.0 ≡ y.0 → ⊥) → same_pair x y ≡ false
other_name x y e = rw (ne_eqb x.0 y.0 e)

pub other_value : (x y : Pair) → (x.1 ≡ y.1 → ⊥) → same_pair x y ≡ false
other_value x y e = rw (ne_eqb x.1 y.1 e) (and-false (eqb x.0 y.0))
