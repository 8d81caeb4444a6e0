-- A pair put into its place in an ascending list: the order by which it is sought, and the list with it.
use Prim.Native.Nat.{ℕ, zero, suc, ◌-◌, ◌≤◌, ◌<◌}
use mathlib.Core.Path.{◌≡◌, refl, sym, ap, subst, ◌∙◌}
use mathlib.Core.Bool.{Bool, true, false, cond, ◌&&◌, ◌||◌}
use mathlib.Core.List.{List, [], ◌∷◌, ◌++◌, map}
use native.Mathlib.Decide.{ℕ_discrete}
use native.Mathlib.Omega.{arith}
use lib.Dec.{eqb, ltb}
use lib.ListN.{length, take, drop, get_or}
use borrow.Author.Tests.{eq-eqb, ne_eqb}
use Rattle.std.specs.Prelude.{Some, Result, Ok, Err, is_ok, IfSome, IfErr, slice_get}
use Rattle.std.specs.List.{HoldsAt}
use Rattle.std.specs.List.Sorted.{IsNonDecreasingBy, IsPartitionPoint, IsSearchInRange, IsBinarySearchResult}
use Rattle.std.specs.Ordering.{nat_cmp, ordering_then, ordering_index}
use Rattle.std.specs.declared.cmp.Ordering.{Ordering}
use Rattle.std.specs.declared.cmp.Ordering.TheVariants.{Less, Equal, Greater}
use Rattle.ptacl.specs.Request.{Pair, same_pair, holds, below, below_head, ascending}
use Rattle.ptacl.proofs.Bools.{either, clash, refute, and_left, and_right, and_both, or_right, or_swap}
use Rattle.ptacl.proofs.Requests.{holds_head, found, pair_equal}
use Rattle.ptacl.proofs.Order.{below_trans, below_apart, below_else, head_below, cons_ascending}
use Rattle.ptacl.specs.Pairs.{packed}
use Rattle.files.proofs.Numbers.{below_packed}
use Rattle.files.specs.Tags.{pair_of}
use Rattle.files.specs.declared.pair.Pair.{Pair as PairC}
use Rattle.pairs.specs.Lists.{PutIn}

-- how a pair stands to x
abbrev ranked : Pair → Pair → Ordering
ranked x y = cond (below y x) Less (cond (same_pair y x) Equal Greater)

by_parts : (a e b f : Bool) → ordering_then (cond a Less (cond e Equal Greater)) (cond b Less (cond f Equal Greater))
    ≡ cond (a || e && b) Less (cond (e && f) Equal Greater)
by_parts true e b f = refl
by_parts false true b f = refl
by_parts false false b f = refl

-- numbers stand to each other as their pairs do
same_number : (x y : Pair) → x.1 < 65536 → y.1 < 65536 → same_pair x y ≡ eqb (packed x) (packed y)
same_number x y h k = elim (ℕ_discrete x.0 y.0) [
  | no n ↦ rw (ne_eqb _ _ n) (sym (ne_eqb (packed x) (packed y) (λ e. n (omega arith))))
  | yes e ↦ rw (eq-eqb _ _ e) (elim (ℕ_discrete x.1 y.1) [
    | no n ↦ rw (ne_eqb _ _ n) (sym (ne_eqb (packed x) (packed y) (λ f. n (omega arith))))
    | yes f ↦ rw (eq-eqb _ _ f) (sym (eq-eqb (packed x) (packed y) (omega arith)))
  ])
]

pub by_number : (x y : Pair) → x.1 < 65536 → y.1 < 65536 → ordering_then (nat_cmp x.0 y.0) (nat_cmp x.1 y.1) ≡ nat_cmp (packed x) (packed y)
by_number x y h k =
    by_parts (ltb x.0 y.0) (eqb x.0 y.0) (ltb x.1 y.1) (eqb x.1 y.1)
    ∙ (λ i. cond (below_packed x y h k i) Less (cond (same_number x y h k i) Equal Greater))

-- the order is by name and then value
abbrev pub stands : PairC → PairC → Ordering
stands p y = ordering_then (nat_cmp y.name p.name) (nat_cmp y.value p.value)

stands_so : (p y : PairC) → stands p y ≡ ranked (pair_of p) (pair_of y)
stands_so p y = by_parts (ltb y.name p.name) (eqb y.name p.name) (ltb y.value p.value) (eqb y.value p.value)

module _ (x y : Pair) where
  is_less : ranked x y ≡ Less → below y x ≡ true
  is_less e = either (below y x) (λ h. h) (λ h. either (same_pair y x)
      (λ s. let i = rw (h, s) at (ap ordering_index e) in absurd (omega arith))
      (λ s. let i = rw (h, s) at (ap ordering_index e) in absurd (omega arith)))

  is_equal : ranked x y ≡ Equal → y ≡ x
  is_equal e = either (below y x) (λ h. let i = rw h at (ap ordering_index e) in absurd (omega arith)) (λ h. either (same_pair y x)
      (λ s. pair_equal y x s)
      (λ s. let i = rw (h, s) at (ap ordering_index e) in absurd (omega arith)))

  is_greater : ranked x y ≡ Greater → below x y ≡ true
  is_greater e = either (below y x) (λ h. let i = rw h at (ap ordering_index e) in absurd (omega arith)) (λ h. either (same_pair y x)
      (λ s. let i = rw (h, s) at (ap ordering_index e) in absurd (omega arith))
      (λ s. below_else y x h s))

two_at_most : (o : Ordering) → ordering_index o ≤ 2
two_at_most Less = omega arith
two_at_most Equal = omega arith
two_at_most Greater = omega arith

rank_up : (x y z : Pair) → below y z ≡ true → ordering_index (ranked x y) ≤ ordering_index (ranked x z)
rank_up x y z b = either (below z x)
    (λ h. rw (below_trans y z x b h) (omega arith))
    (λ h. either (same_pair z x)
    (λ s. rw (subst (λ w. below y w ≡ true) (pair_equal z x s) b) (omega arith))
    (λ s. rw (h, s) (two_at_most (ranked x y))))

pub at_held : (xs : List PairC) (i : ℕ) (d : PairC) → i < length xs → holds (map pair_of xs) (pair_of (get_or xs i d)) ≡ true
at_held [] i d h = absurd (omega arith)
at_held (y ∷ xs) zero d h = holds_head (pair_of y) (map pair_of xs)
at_held (y ∷ xs) (suc i) d h = or_right (same_pair (pair_of y) (pair_of (get_or xs i d))) (at_held xs i d (omega arith))

-- the ranks of an ascending list rise
ranks_rise : (p : PairC) (xs : List PairC) → ascending (map pair_of xs) ≡ true → IsNonDecreasingBy (λ y. ordering_index (stands p y)) xs
ranks_rise p [] a i j d h k = absurd (omega arith)
ranks_rise p (y ∷ xs) a zero zero d h k = omega arith
ranks_rise p (y ∷ xs) a zero (suc j) d h k =
    let z = get_or xs j d in
    let up = rank_up (pair_of p) (pair_of y) (pair_of z) (head_below (pair_of y) (map pair_of xs) a (pair_of z) (at_held xs j d (omega arith))) in
    omega (arith, up, ap ordering_index (stands_so p y), ap ordering_index (stands_so p z))
ranks_rise p (y ∷ xs) a (suc i) zero d h k = absurd (omega arith)
ranks_rise p (y ∷ xs) a (suc i) (suc j) d h k =
    ranks_rise p xs (and_right (below_head (pair_of y) (map pair_of xs)) a) i j d (omega arith) (omega arith)

-- a pair that is there already is put in by leaving the list as it is
pub held_put : {x : Pair} {ps : List Pair} → ascending ps ≡ true → holds ps x ≡ true → PutIn x ps ps
held_put {x} {ps} a h = record {
  ordered = a;
  members = λ z. either (same_pair x z) (λ s. rw s (subst (λ w. holds ps w ≡ true) (pair_equal x z s) h)) (λ s. rw s);
}

module _ (p : PairC) where
  abbrev with_pair : List PairC → ℕ → List PairC
  with_pair xs i = take i xs ++ p ∷ drop i xs

  put_holds : (xs : List PairC) (i : ℕ) (z : Pair) → holds (map pair_of (with_pair xs i)) z ≡ (same_pair (pair_of p) z || holds (map pair_of xs) z)
  put_holds xs zero z = refl
  put_holds [] (suc i) z = refl
  put_holds (y ∷ xs) (suc i) z =
      ap (λ b. same_pair (pair_of y) z || b) (put_holds xs i z) ∙ or_swap (same_pair (pair_of y) z) (same_pair (pair_of p) z) (holds (map pair_of xs) z)

  put_ascending : (xs : List PairC) (i : ℕ) → ascending (map pair_of xs) ≡ true
      → ((k : ℕ) → k < i → below (pair_of (get_or xs k p)) (pair_of p) ≡ true)
      → ((k : ℕ) → i ≤ k → k < length xs → below (pair_of p) (pair_of (get_or xs k p)) ≡ true)
      → ascending (map pair_of (with_pair xs i)) ≡ true
  put_ascending [] zero a f g = refl
  put_ascending [] (suc i) a f g = refl
  put_ascending (y ∷ xs) zero a f g = and_both (g 0 (omega arith) (omega arith)) a
  put_ascending (y ∷ xs) (suc i) a f g =
      cons_ascending (pair_of y) (map pair_of (with_pair xs i))
      (λ z h. found (pair_of p) (map pair_of xs) z (λ e. subst (λ w. below (pair_of y) w ≡ true) e (f 0 (omega arith)))
      (head_below (pair_of y) (map pair_of xs) a z) (sym (put_holds xs i z) ∙ h))
      (put_ascending xs i (and_right (below_head (pair_of y) (map pair_of xs)) a)
      (λ k l. f (suc k) (omega arith)) (λ k l m. g (suc k) (omega arith) (omega arith)))

  -- behind all others
  put_last : (xs : List PairC) (i : ℕ) → i ≡ length xs - 1 → ascending (map pair_of xs) ≡ true
      → IfSome (slice_get xs i) (λ l. below (pair_of l) (pair_of p) ≡ true) → PutIn (pair_of p) (map pair_of xs) (map pair_of (xs ++ p ∷ []))
  put_last xs i e a b = record { ordered = rises xs i e a b; members = members xs }
    where
      rises : (xs : List PairC) (i : ℕ) → i ≡ length xs - 1 → ascending (map pair_of xs) ≡ true
          → IfSome (slice_get xs i) (λ l. below (pair_of l) (pair_of p) ≡ true) → ascending (map pair_of (xs ++ p ∷ [])) ≡ true
      rises [] i e a b = refl
      rises (y ∷ []) zero e a b = and_both b refl
      rises (y ∷ []) (suc i) e a b = absurd (omega arith)
      rises (y ∷ z ∷ xs) zero e a b = absurd (omega arith)
      rises (y ∷ z ∷ xs) (suc i) e a b = and_both (and_left _ a) (rises (z ∷ xs) i (omega arith) (and_right (below (pair_of y) (pair_of z)) a) b)

      members : (xs : List PairC) (z : Pair) → holds (map pair_of (xs ++ p ∷ [])) z ≡ (same_pair (pair_of p) z || holds (map pair_of xs) z)
      members [] z = refl
      members (y ∷ xs) z =
          ap (λ b. same_pair (pair_of y) z || b) (members xs z) ∙ or_swap (same_pair (pair_of y) z) (same_pair (pair_of p) z) (holds (map pair_of xs) z)

  pub above_last : (xs : List PairC) {l : PairC} → ascending (map pair_of xs) ≡ true → Some l ≡ slice_get xs (length xs - 1)
      → below (pair_of l) (pair_of p) ≡ true → PutIn (pair_of p) (map pair_of xs) (map pair_of (xs ++ p ∷ []))
  above_last xs a e b = put_last xs _ refl a (subst (λ o. IfSome o (λ l. below (pair_of l) (pair_of p) ≡ true)) e b)

  -- it was not there before, for in an ascending list it stands once
  put_anew : (xs : List PairC) (i : ℕ) → ascending (map pair_of (with_pair xs i)) ≡ true → holds (map pair_of xs) (pair_of p) ≡ false
  put_anew [] i a = refl
  put_anew (y ∷ xs) zero a =
      refute (λ k. below_apart (pair_of p) (pair_of p) (head_below (pair_of p) (map pair_of (y ∷ xs)) a (pair_of p) k) refl)
  put_anew (y ∷ xs) (suc i) a =
      let new = map pair_of (with_pair xs i) in
      let there : holds new (pair_of p) ≡ true = put_holds xs i (pair_of p) ∙ holds_head (pair_of p) (map pair_of xs) in
      let under = head_below (pair_of y) new a (pair_of p) there in
      refute (found (pair_of y) (map pair_of xs) (pair_of p) (λ e. below_apart (pair_of y) (pair_of p) under e)
      (λ k. clash k (put_anew xs i (and_right (below_head (pair_of y) new) a))))

  -- what the search found: the pair itself, or the place that parts those below it from those above
  module _ (xs : List PairC) (a : ascending (map pair_of xs) ≡ true) where
    put_there : (i : ℕ) → (IsNonDecreasingBy (λ y. ordering_index (stands p y)) xs → IsPartitionPoint (λ y. stands p y ≡ Less) (λ y. stands p y ≡ Greater) xs i)
        → PutIn (pair_of p) (map pair_of xs) (map pair_of (with_pair xs i))
    put_there i found =
        let point = found (ranks_rise p xs a) in
        record {
          ordered = put_ascending xs i a
              (λ k l. is_less (pair_of p) _ (sym (stands_so p (get_or xs k p)) ∙ point.0 k p (omega arith) l))
              (λ k l m. is_greater (pair_of p) _ (sym (stands_so p (get_or xs k p)) ∙ point.1 k p l m));
          members = put_holds xs i;
        }

    is_there : (i : ℕ) → i < length xs → HoldsAt (λ y. stands p y ≡ Equal) xs i → holds (map pair_of xs) (pair_of p) ≡ true
    is_there i l e =
        let same : pair_of (get_or xs i p) ≡ pair_of p = is_equal (pair_of p) _ (sym (stands_so p (get_or xs i p)) ∙ e p) in
        subst (λ z. holds (map pair_of xs) z ≡ true) same (at_held xs i p l)

    pub record Sought (r : Result ℕ ℕ) : Type 0 where
      pub there : is_ok r ≡ holds (map pair_of xs) (pair_of p)
      pub bound : IfErr r (λ i. i ≤ length xs)
      pub place : IfErr r (λ i. PutIn (pair_of p) (map pair_of xs) (map pair_of (with_pair xs i)))

    pub sought : (r : Result ℕ ℕ) → IsSearchInRange r (length xs) → IsBinarySearchResult (stands p) xs r → Sought r
    sought (Ok i) l e = record { there = sym (is_there i l e); bound = tt; place = tt }
    sought (Err i) l e =
        let put = put_there i e in
        record { there = sym (put_anew xs i put.ordered); bound = l; place = put }
