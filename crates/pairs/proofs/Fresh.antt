-- The fresh pair of a name: the search for it ends, and what it finds is fresh; and the list of all pairs, each named one with its fresh one.
use Prim.Native.Nat.{ℕ, zero, suc, ◌+◌, ◌*◌, ◌≤◌, ◌<◌}
use mathlib.Core.Path.{◌≡◌, refl, sym, ap, subst, ◌∙◌}
use mathlib.Core.Logic.{⊎_elim}
use mathlib.Core.Bool.{true, false, not, ◌||◌, or_assoc, or-false}
use mathlib.Core.List.{List, [], ◌∷◌, ◌++◌, map, map-append}
use native.Mathlib.Numerals.{add-one}
use native.Mathlib.Omega.{arith}
use lib.Dec.{eqb, ltb}
use lib.ListN.{length, take, drop, get_or, length-map, length-drop, drop_of_length-le}
use lib.Seq.{drop-cons, take-suc, take_all}
use borrow.Author.Tests.{lt-ltb, eqb-true}
use Rattle.std.specs.Prelude.{Option, None, Some, IfSome}
use Rattle.std.specs.Option.{option_eq}
use Rattle.ptacl.specs.Request.{Pair, same_pair, holds, has, below, below_head, ascending}
use Rattle.ptacl.specs.Pairs.{named, all_below, fresh, IsPairs}
use Rattle.ptacl.proofs.Bools.{either, clash, refute, and_right, and_both, not_false, or_right, or_split, or_swap, eqb_same}
use Rattle.ptacl.proofs.Requests.{pair_equal, found, holds_head, holds_has, holds_append}
use Rattle.ptacl.proofs.Order.{below_trans, below_apart, head_below}
use Rattle.ptacl.proofs.Fresh.{full, fresh_one, fresh_exists, fresh_value}
use Rattle.ptacl.proofs.Pairs.{fresh_pair, all_holds}
use Rattle.files.specs.Tags.{pair_of}
use Rattle.files.specs.declared.pair.Pair.{Pair as PairC}
use Rattle.pairs.specs.Lists.{FreshOf, PutIn}
use Rattle.pairs.proofs.Placed.{at_held}
use Rattle.pairs.proofs.Gather.{Gathered, gathered_next, gathered_all}

-- those before a place of an ascending list are below the one there
before_place : (xs : List PairC) (i : ℕ) (d : PairC) → ascending (map pair_of xs) ≡ true → i < length xs
    → (z : Pair) → holds (map pair_of (take i xs)) z ≡ true → below z (pair_of (get_or xs i d)) ≡ true
before_place [] i d a h z k = absurd (omega arith)
before_place (y ∷ xs) zero d a h z k = clash k refl
before_place (y ∷ xs) (suc i) d a h z k = found (pair_of y) (map pair_of (take i xs)) z
    (λ e. subst (λ w. below w (pair_of (get_or xs i d)) ≡ true) e
    (head_below (pair_of y) (map pair_of xs) a (pair_of (get_or xs i d)) (at_held xs i d (omega arith))))
    (before_place xs i d (and_right (below_head (pair_of y) (map pair_of xs)) a) (omega arith) z) k

-- every value below is named, and of the pairs up to a place none is x
pub record Tried (l : List PairC) (n i : ℕ) (x : Pair) : Type 0 where
  pub name : x.0 ≡ n
  pub low : all_below (λ v. named (map pair_of l) (n, v)) x.1 ≡ true
  pub passed : holds (map pair_of (take i l)) x ≡ false

module _ (l : List PairC) (n : ℕ) where
  pub tried_start : Tried l n 0 (n, 0)
  tried_start = record { name = refl; low = refl; passed = refl }

  pub tried_few : {i : ℕ} {x : Pair} → Tried l n i x → length l ≤ 127 → x.1 ≤ 127
  tried_few {x} t h = omega (arith, full (map pair_of l) n x.1 t.low, length-map l pair_of)

  pub tried_end : {i : ℕ} {x : Pair} → Tried l n i x → length l ≤ i → FreshOf (map pair_of l) n x
  tried_end {i} {x} t h = record {
    name = t.name;
    free = ap (λ xs. holds (map pair_of xs) x) (sym (take_all i l h)) ∙ t.passed;
    smallest = t.low;
  }

  module _ (i : ℕ) (d : PairC) (x : Pair) (t : Tried l n i x) (inside : i < length l) where
    one_more : (z : Pair) → holds (map pair_of (take (i + 1) l)) z ≡ (holds (map pair_of (take i l)) z || same_pair (pair_of (get_or l i d)) z)
    one_more z =
        let e : take (i + 1) l ≡ take i l ++ get_or l i d ∷ [] = rw (add-one i, take-suc l i d inside) in
        ap (λ xs. holds (map pair_of xs) z) e
        ∙ (ap (λ xs. holds xs z) (map-append pair_of (take i l) (get_or l i d ∷ []))
        ∙ (holds_append (map pair_of (take i l)) (pair_of (get_or l i d) ∷ []) z
        ∙ ap (λ b. holds (map pair_of (take i l)) z || b) (or-false (same_pair (pair_of (get_or l i d)) z))))

    -- another pair stands there
    pub tried_other : same_pair (pair_of (get_or l i d)) x ≡ false → Tried l n (i + 1) x
    tried_other h = record { name = t.name; low = t.low; passed = one_more x ∙ rw (t.passed, h) }

    -- the pair itself stands there, and none before it is the next
    pub tried_same : same_pair (pair_of (get_or l i d)) x ≡ true → ascending (map pair_of l) ≡ true → Tried l n (i + 1) (x.0, x.1 + 1)
    tried_same h a =
        let here : pair_of (get_or l i d) ≡ x = pair_equal (pair_of (get_or l i d)) x h in
        let next : Pair = (x.0, x.1 + 1) in
        let above : below x next ≡ true = or_right (ltb x.0 x.0) (and_both (eqb_same x.0) (lt-ltb x.1 (x.1 + 1) (omega arith))) in
        let held : named (map pair_of l) x ≡ true = subst (λ z. holds (map pair_of l) z ≡ true) here (at_held l i d inside) in
        record {
          name = t.name;
          low = rw add-one (and_both (subst (λ m. named (map pair_of l) (m, x.1) ≡ true) t.name held) t.low);
          passed = refute (λ k. ⊎_elim
              (λ b. below_apart x x
              (below_trans x next x above (subst (λ z. below next z ≡ true) here (before_place l i d a inside next b))) refl)
              (λ s. below_apart x next above (sym here ∙ pair_equal (pair_of (get_or l i d)) next s))
              (or_split (holds (map pair_of (take i l)) next) (sym (one_more next) ∙ k)));
        }

-- there is only one
fresh_is : (ats : List Pair) (n : ℕ) (x : Pair) → has ats n ≡ true → FreshOf ats n x → x ≡ (n, fresh_value ats n)
fresh_is ats n x u f =
    let whole : (n, x.1) ≡ x = ap (λ m. (m, x.1)) (sym f.name) in
    let right : fresh ats (n, x.1) ≡ true = and_both u (and_both (not_false (ap (named ats) whole ∙ f.free)) f.smallest) in
    sym whole ∙ ap (λ v. (n, v)) (fresh_one ats n x.1 (fresh_value ats n) right (fresh_exists ats n u))

-- each pair with the fresh one of its name
abbrev pub each_with_fresh : List Pair → List Pair → List Pair
each_with_fresh ats [] = []
each_with_fresh ats (y ∷ ys) = fresh_pair ats y ∷ y ∷ each_with_fresh ats ys

each_length : (ats ys : List Pair) → length (each_with_fresh ats ys) ≡ 2 * length ys
each_length ats [] = omega arith
each_length ats (y ∷ ys) = omega (arith, each_length ats ys)

each_holds : (ats ys : List Pair) (z : Pair) → holds (each_with_fresh ats ys) z ≡ (holds ys z || holds (map (fresh_pair ats) ys) z)
each_holds ats [] z = refl
each_holds ats (y ∷ ys) z =
    let own = same_pair y z in
    let new = same_pair (fresh_pair ats y) z in
    let later = holds (map (fresh_pair ats) ys) z in
    ap (λ b. new || (own || b)) (each_holds ats ys z)
    ∙ (or_swap new own (holds ys z || later)
    ∙ (ap (λ b. own || b) (or_swap new (holds ys z) later) ∙ sym (or_assoc own (holds ys z) (new || later))))

module _ (named_pairs : List PairC) where
  abbrev ats : List Pair
  ats = map pair_of named_pairs

  -- the fresh pair of the name that was met last is in the list
  abbrev pub LastPut : Option ℕ → List Pair → Type 0
  LastPut last ps = IfSome last (λ n. holds ps (n, fresh_value ats n) ≡ true)

  pub last_kept : {x : Pair} {old new : List Pair} (last : Option ℕ) → LastPut last old → PutIn x old new → LastPut last new
  last_kept None h a = tt
  last_kept {x} (Some n) h a = a.members (n, fresh_value ats n) ∙ or_right (same_pair x (n, fresh_value ats n)) h

  pub last_there : (ps : List Pair) (last : Option ℕ) (n : ℕ) → LastPut last ps → not (option_eq eqb last (Some n)) ≡ false
      → holds ps (n, fresh_value ats n) ≡ true
  last_there ps None n h e = clash refl e
  last_there ps (Some m) n h e = either (eqb m n)
      (λ k. subst (λ v. holds ps (v, fresh_value ats v) ≡ true) (eqb-true m n k) h)
      (λ k. clash (not_false k) e)

  -- still to come from a place on
  abbrev pub coming : ℕ → List Pair
  coming i = each_with_fresh ats (map pair_of (drop i named_pairs))

  pub coming_few : length named_pairs ≤ 127 → length (coming 0) ≤ 254
  coming_few h = omega (arith, h, each_length ats (map pair_of named_pairs), length-map named_pairs pair_of)

  module _ (i : ℕ) (d : PairC) (inside : i < length named_pairs) where
    abbrev p : PairC
    p = get_or named_pairs i d

    split : coming i ≡ fresh_pair ats (pair_of p) ∷ pair_of p ∷ coming (i + 1)
    split =
        let e : drop i named_pairs ≡ p ∷ drop (i + 1) named_pairs = rw (drop-cons named_pairs i d inside, add-one i) in
        ap (λ xs. each_with_fresh ats (map pair_of xs)) e

    used : has ats p.name ≡ true
    used = holds_has ats (pair_of p) (at_held named_pairs i d inside)

    pub fresh_put : {x : Pair} {old new : List Pair} → FreshOf ats p.name x → PutIn x old new → PutIn (fresh_pair ats (pair_of p)) old new
    fresh_put {x} f b = rw (fresh_is ats p.name x used f) at b

    -- so the name is the one met last
    pub last_new : {old new : List Pair} → PutIn (fresh_pair ats (pair_of p)) old new → LastPut (Some p.name) new
    last_new {old} a = a.members (fresh_pair ats (pair_of p)) ∙ holds_head (fresh_pair ats (pair_of p)) old

    -- the fresh pair is in, and the pair itself comes next
    pub record Halfway (last : Option ℕ) (pairs : List PairC) : Type 0 where
      pub gathered : Gathered 254 (coming 0) (pair_of p ∷ coming (i + 1)) pairs
      pub last_put : LastPut last (map pair_of pairs)

    pub halfway : {last : Option ℕ} {pairs one : List PairC} → Gathered 254 (coming 0) (coming i) pairs
        → PutIn (fresh_pair ats (pair_of p)) (map pair_of pairs) (map pair_of one) → length one ≤ length pairs + 1
        → LastPut last (map pair_of one) → Halfway last one
    halfway g a h k = record { gathered = gathered_next g split a h; last_put = k }

  pub coming_room : (i : ℕ) {pairs : List PairC} → i < length named_pairs → Gathered 254 (coming 0) (coming i) pairs → length pairs < 254
  coming_room i h g =
      omega (arith, g.room, each_length ats (map pair_of (drop i named_pairs)), length-map (drop i named_pairs) pair_of, length-drop i named_pairs)

  pub coming_end : (i : ℕ) {pairs : List PairC} → Gathered 254 (coming 0) (coming i) pairs → length named_pairs ≤ i
      → IsPairs ats (map pair_of pairs)
  coming_end i g h =
      let none : coming i ≡ [] = ap (λ xs. each_with_fresh ats (map pair_of xs)) (drop_of_length-le named_pairs h) in
      record {
        ordered = g.ordered;
        members = λ z.
            gathered_all g none z ∙ (each_holds ats ats z ∙ (sym (holds_append ats (map (fresh_pair ats) ats) z) ∙ all_holds ats z));
      }

pub ruleset fresh_laws = (tried_start, tried_few, tried_end)
