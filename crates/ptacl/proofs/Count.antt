-- An ascending list within another list is no longer than it.
use Prim.Native.Nat.{suc, ◌≤◌}
use mathlib.Core.Path.{◌≡◌, refl, sym, ap, ◌∙◌}
use mathlib.Core.Bool.{true, cond}
use mathlib.Core.List.{List, [], ◌∷◌}
use native.Mathlib.Omega.{arith}
use lib.ListN.{length}
use Rattle.ptacl.specs.Request.{Pair, same_pair, holds, Within, below_head, ascending}
use Rattle.ptacl.proofs.Bools.{either, clash, and_right, or_right, or_up}
use Rattle.ptacl.proofs.Requests.{pair_equal, holds_head, found}
use Rattle.ptacl.proofs.Order.{head_below, below_apart}

abbrev remove : Pair → List Pair → List Pair
remove x [] = []
remove x (y ∷ ys) = cond (same_pair y x) ys (y ∷ remove x ys)

remove_length : (x : Pair) (ys : List Pair) → holds ys x ≡ true → length ys ≡ suc (length (remove x ys))
remove_length x [] h = clash h refl
remove_length x (y ∷ ys) h = either (same_pair y x) (λ e. rw e) (λ e. rw e (ap suc (remove_length x ys (rw e at h))))

remove_holds : (x : Pair) (ys : List Pair) (z : Pair) → (x ≡ z → ⊥) → holds ys z ≡ true → holds (remove x ys) z ≡ true
remove_holds x [] z n h = h
remove_holds x (y ∷ ys) z n h = either (same_pair y x)
    (λ e. rw e (found y ys z (λ f. absurd (n (sym (pair_equal y x e) ∙ f))) (λ k. k) h))
    (λ e. rw e (or_up (same_pair y z) (holds ys z) (λ k. k) (remove_holds x ys z n) h))

pub within_length : (xs ys : List Pair) → ascending xs ≡ true → Within xs ys → length xs ≤ length ys
within_length [] ys a w = omega arith
within_length (x ∷ xs) ys a w =
    let e = remove_length x ys (w.up x (holds_head x xs)) in
    let h = within_length xs (remove x ys) (and_right (below_head x xs) a) rest in
    omega arith
  where
    rest : Within xs (remove x ys)
    rest = record { up = λ z h. remove_holds x ys z (below_apart x z (head_below x xs a z h)) (w.up z (or_right (same_pair x z) h)) }
