-- The order of pairs, and ascending lists: two that hold the same pairs are equal.
use Prim.Native.Nat.{◌<◌}
use mathlib.Core.Path.{◌≡◌, refl, sym, ap, ap₂, subst, ◌∙◌}
use mathlib.Core.Logic.{◌⊎◌, inl, inr, ⊎_elim}
use mathlib.Core.Bool.{true, false}
use mathlib.Core.List.{List, [], ◌∷◌}
use native.Mathlib.Omega.{arith}
use lib.Dec.{eqb, ltb}
use borrow.Author.Tests.{ltb-true, lt-ltb, eqb-true, eqb-false, eq-eqb}
use Rattle.ptacl.specs.Request.{Pair, same_pair, holds, below, below_head, ascending}
use Rattle.ptacl.proofs.Bools.{either, clash, and_left, and_right, and_both, or_left, or_right, or_split, iff}
use Rattle.ptacl.proofs.Requests.{holds_head, found}

abbrev Below : Pair → Pair → Type 0
Below x y = (x.0 < y.0) ⊎ ((x.0 ≡ y.0) × (x.1 < y.1))

below_is : (x y : Pair) → below x y ≡ true → Below x y
below_is x y h =
    ⊎_elim (λ k. inl (ltb-true _ _ k)) (λ k. inr (eqb-true _ _ (and_left _ k), ltb-true _ _ (and_right (eqb x.0 y.0) k)))
    (or_split (ltb x.0 y.0) h)

is_below : (x y : Pair) → Below x y → below x y ≡ true
is_below x y (inl h) = or_left _ (lt-ltb _ _ h)
is_below x y (inr h) = or_right (ltb x.0 y.0) (and_both (eq-eqb _ _ h.0) (lt-ltb _ _ h.1))

follows : (x y z : Pair) → Below x y → Below y z → Below x z
follows x y z (inl h) (inl k) = inl (omega arith)
follows x y z (inl h) (inr k) = inl (omega arith)
follows x y z (inr h) (inl k) = inl (omega arith)
follows x y z (inr h) (inr k) = inr (omega arith)

pub below_trans : (x y z : Pair) → below x y ≡ true → below y z ≡ true → below x z ≡ true
below_trans x y z h k = is_below x z (follows x y z (below_is x y h) (below_is y z k))

pub below_apart {ℓ} : {C : Type ℓ} (x y : Pair) → below x y ≡ true → x ≡ y → C
below_apart x y h e =
    let a = ap (λ z. z.0) e in
    let b = ap (λ z. z.1) e in
    absurd (⊎_elim (λ l. omega arith) (λ l. omega arith) (below_is x y h))

-- of two pairs that differ one is below the other
pub below_else : (x y : Pair) → below x y ≡ false → same_pair x y ≡ false → below y x ≡ true
below_else x y h k = is_below y x (either (eqb x.0 y.0) (λ e. inr (sym (eqb-true _ _ e), second e)) (λ e. inl (first e)))
  where
    first : eqb x.0 y.0 ≡ false → y.0 < x.0
    first e =
        let a : (x.0 < y.0 → ⊥) = λ l. clash (is_below x y (inl l)) h in
        let b : (x.0 ≡ y.0 → ⊥) = eqb-false _ _ e in
        omega arith

    second : eqb x.0 y.0 ≡ true → y.1 < x.1
    second e =
        let a : (x.1 < y.1 → ⊥) = λ l. clash (is_below x y (inr (eqb-true _ _ e, l))) h in
        let b : (x.1 ≡ y.1 → ⊥) = λ l. clash (and_both e (eq-eqb _ _ l)) k in
        omega arith

-- a list is ascending exactly if its head is below all others and they are ascending
pub head_below : (x : Pair) (xs : List Pair) → ascending (x ∷ xs) ≡ true → (z : Pair) → holds xs z ≡ true → below x z ≡ true
head_below x [] a z = λ h. clash h refl
head_below x (y ∷ ys) a z =
    found y ys z (λ e. subst (λ w. below x w ≡ true) e (and_left _ a))
    (λ h. below_trans x y z (and_left _ a) (head_below y ys (and_right (below x y) a) z h))

pub cons_ascending : (x : Pair) (xs : List Pair) → ((z : Pair) → holds xs z ≡ true → below x z ≡ true)
    → ascending xs ≡ true → ascending (x ∷ xs) ≡ true
cons_ascending x [] h a = refl
cons_ascending x (y ∷ ys) h a = and_both (h y (holds_head y ys)) a

-- of two ascending lists with the same members, the heads are equal, and the tails have the same members
same_head : (x y : Pair) (xs ys : List Pair) → ascending (x ∷ xs) ≡ true → ascending (y ∷ ys) ≡ true
    → holds (y ∷ ys) x ≡ true → holds (x ∷ xs) y ≡ true → x ≡ y
same_head x y xs ys a b h k =
    found y ys x sym
    (λ e. found x xs y (λ f. f) (λ f. below_apart x x (below_trans x y x (head_below x xs a y f) (head_below y ys b x e)) refl) k) h

same_tail : (x : Pair) (xs ys : List Pair) → ascending (x ∷ xs) ≡ true → ((z : Pair) → holds (x ∷ xs) z ≡ holds (x ∷ ys) z)
    → (z : Pair) → holds xs z ≡ true → holds ys z ≡ true
same_tail x xs ys a s z h =
    found x ys z (λ e. below_apart x z (head_below x xs a z h) e) (λ k. k) (sym (s z) ∙ or_right (same_pair x z) h)

pub ascending_same : (xs ys : List Pair) → ascending xs ≡ true → ascending ys ≡ true → ((z : Pair) → holds xs z ≡ holds ys z) → xs ≡ ys
ascending_same [] [] a b s = refl
ascending_same [] (y ∷ ys) a b s = clash (holds_head y ys) (sym (s y))
ascending_same (x ∷ xs) [] a b s = clash (holds_head x xs) (s x)
ascending_same (x ∷ xs) (y ∷ ys) a b s =
    ap₂ ◌∷◌ e
    (ascending_same xs ys (and_right (below_head x xs) a) (and_right (below_head y ys) b)
    (λ z. iff (same_tail y xs ys (rw e at a) t z) (same_tail y ys xs b (λ w. sym (t w)) z)))
  where
    e : x ≡ y
    e = same_head x y xs ys a b (sym (s x) ∙ holds_head x xs) (s y ∙ holds_head y ys)

    t : (z : Pair) → holds (y ∷ xs) z ≡ holds (y ∷ ys) z
    t = subst (λ w. (z : Pair) → holds (w ∷ xs) z ≡ holds (y ∷ ys) z) e s
