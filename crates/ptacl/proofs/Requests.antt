-- What requests hold.
use Prim.Native.Nat.{ℕ}
use mathlib.Core.Path.{◌≡◌, refl, sym, ap, subst, ◌∙◌}
use mathlib.Core.Logic.{⊎_elim}
use mathlib.Core.Bool.{true, ◌||◌, or_assoc}
use mathlib.Core.List.{List, [], ◌∷◌, ◌++◌, map}
use lib.Dec.{eqb}
use borrow.Author.Tests.{eqb-true, eq-eqb}
use Rattle.ptacl.specs.Request.{Pair, Request, same_pair, holds, has, Within}
use Rattle.ptacl.proofs.Bools.{eqb_same, clash, and_left, and_right, and_both, or_left, or_right, or_split}

pub pair_equal : (x y : Pair) → same_pair x y ≡ true → x ≡ y
pair_equal x y h = λ i. (name i, value i)
  where
    name : x.0 ≡ y.0
    name = eqb-true _ _ (and_left _ h)

    value : x.1 ≡ y.1
    value = eqb-true _ _ (and_right (eqb x.0 y.0) h)

pub pair_same : (x : Pair) → same_pair x x ≡ true
pair_same x = and_both (eqb_same x.0) (eqb_same x.1)

pub holds_head : (x : Pair) (q : Request) → holds (x ∷ q) x ≡ true
holds_head x q = or_left _ (pair_same x)

-- a pair that is held is the head or stands further on
pub found {ℓ} : {C : Type ℓ} (y : Pair) (q : Request) (x : Pair) → (y ≡ x → C) → (holds q x ≡ true → C) → holds (y ∷ q) x ≡ true → C
found y q x f g h = ⊎_elim (λ k. f (pair_equal y x k)) g (or_split (same_pair y x) h)

pub holds_append : (xs ys : List Pair) (x : Pair) → holds (xs ++ ys) x ≡ (holds xs x || holds ys x)
holds_append [] ys x = refl
holds_append (y ∷ xs) ys x = ap (λ b. same_pair y x || b) (holds_append xs ys x) ∙ sym (or_assoc (same_pair y x) (holds xs x) (holds ys x))

-- a request has the names of the pairs that it holds
pub holds_has : (q : Request) (x : Pair) → holds q x ≡ true → has q x.0 ≡ true
holds_has [] x = λ h. h
holds_has (y ∷ q) x =
    found y q x (λ e. or_left _ (eq-eqb _ _ (ap (λ z. z.0) e))) (λ h. or_right (eqb y.0 x.0) (holds_has q x h))

pub has_holds : (q : Request) (n : ℕ) → has q n ≡ true → (v : ℕ) × (holds q (n, v) ≡ true)
has_holds [] n h = clash h refl
has_holds (y ∷ q) n h =
    ⊎_elim (λ k. (y.1, or_left (holds q (n, y.1)) (and_both k (eqb_same y.1))))
    (λ k. let r = has_holds q n k in (r.0, or_right (same_pair y (n, r.0)) r.1))
    (or_split (eqb y.0 n) h)

pub has_up : {q' q : Request} → Within q' q → (n : ℕ) → has q' n ≡ true → has q n ≡ true
has_up {q'} {q} w n h = let r = has_holds q' n h in holds_has q (n, r.0) (w.up (n, r.0) r.1)

pub holds_map : (f : Pair → Pair) (l : List Pair) (x : Pair) → holds l x ≡ true → holds (map f l) (f x) ≡ true
holds_map f [] x h = h
holds_map f (y ∷ l) x h = found y l x
    (λ e. subst (λ z. holds (map f (y ∷ l)) (f z) ≡ true) e (holds_head (f y) (map f l)))
    (λ k. or_right (same_pair (f y) (f x)) (holds_map f l x k)) h

pub map_holds : (f : Pair → Pair) (l : List Pair) (x : Pair) → holds (map f l) x ≡ true → (y : Pair) × (holds l y ≡ true) × (f y ≡ x)
map_holds f [] x h = clash h refl
map_holds f (y ∷ l) x h = found (f y) (map f l) x
    (λ e. (y, holds_head y l, e))
    (λ k. let r = map_holds f l x k in (r.0, or_right (same_pair y r.0) r.1, r.2)) h
