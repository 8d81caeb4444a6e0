-- Each name of the atoms has one fresh value, and it is at most the number of atoms.
use Prim.Native.Nat.{ℕ, zero, suc, ◌≤◌, ◌<◌, ◌+◌}
use mathlib.Core.Path.{◌≡◌, refl, ap, subst}
use mathlib.Core.Logic.{◌⊎◌, inl, inr, ⊎_elim}
use mathlib.Core.Bool.{Bool, true, false, not, cond}
use mathlib.Core.List.{List, [], ◌∷◌}
use native.Mathlib.Omega.{arith}
use lib.Dec.{ltb}
use lib.ListN.{length}
use borrow.Author.Tests.{lt-ltb, not-true}
use Rattle.ptacl.specs.Request.{Pair, holds, has, ascending}
use Rattle.ptacl.specs.Pairs.{named, all_below, fresh}
use Rattle.ptacl.proofs.Bools.{either, clash, and_left, and_right, and_both, or_right, not_false, eqb_same, below_at}
use Rattle.ptacl.proofs.Requests.{found}
use Rattle.ptacl.proofs.Count.{within_length}

-- a name with k values from v on
abbrev run : ℕ → ℕ → ℕ → List Pair
run n v zero = []
run n v (suc k) = (n, v) ∷ run n (suc v) k

run_length : (n v k : ℕ) → length (run n v k) ≡ k
run_length n v zero = refl
run_length n v (suc k) = ap suc (run_length n (suc v) k)

run_ascending : (n v k : ℕ) → ascending (run n v k) ≡ true
run_ascending n v zero = refl
run_ascending n v (suc zero) = refl
run_ascending n v (suc (suc k)) =
    and_both (or_right (ltb n n) (and_both (eqb_same n) (lt-ltb v (suc v) (omega arith)))) (run_ascending n (suc v) (suc k))

run_members : (n v k : ℕ) (x : Pair) → holds (run n v k) x ≡ true → (n ≡ x.0) × (x.1 < v + k)
run_members n v zero x h = clash h refl
run_members n v (suc k) x h = found (n, v) (run n (suc v) k) x
    (λ e. (ap (λ z. z.0) e, let f = ap (λ z. z.1) e in omega arith))
    (λ h. let r = run_members n (suc v) k x h in (r.0, omega arith)) h

-- as many values as are named for a name from 0 on, so many atoms there are
pub full : (ats : List Pair) (n k : ℕ) → all_below (λ v. named ats (n, v)) k ≡ true → k ≤ length ats
full ats n k h =
    let e = run_length n 0 k in
    let l = within_length (run n 0 k) ats (run_ascending n 0 k) (record { up = inside }) in
    omega arith
  where
    inside : (x : Pair) → holds (run n 0 k) x ≡ true → holds ats x ≡ true
    inside x i = let r = run_members n 0 k x i in
        subst (λ m. holds ats (m, x.1) ≡ true) r.0 (below_at (λ v. named ats (n, v)) k h x.1 (omega arith))

-- the smallest number below k at which a test fails, or k
abbrev pub gap : (ℕ → Bool) → ℕ → ℕ
gap f zero = 0
gap f (suc k) = cond (f (gap f k)) (suc (gap f k)) (gap f k)

gap_below : (f : ℕ → Bool) (k : ℕ) → all_below f (gap f k) ≡ true
gap_below f zero = refl
gap_below f (suc k) = either (f (gap f k)) (λ e. rw e (and_both e (gap_below f k))) (λ e. rw e (gap_below f k))

gap_fails : (f : ℕ → Bool) (k : ℕ) → (gap f k ≡ k) ⊎ (f (gap f k) ≡ false)
gap_fails f zero = inl refl
gap_fails f (suc k) = either (f (gap f k)) (λ e. rw e (⊎_elim (λ h. inl (ap suc h)) (λ h. clash e h) (gap_fails f k))) (λ e. rw e (inr e))

-- the fresh value of a name
abbrev pub fresh_value : List Pair → ℕ → ℕ
fresh_value ats n = gap (λ v. named ats (n, v)) (suc (length ats))

pub fresh_exists : (ats : List Pair) (n : ℕ) → has ats n ≡ true → fresh ats (n, fresh_value ats n) ≡ true
fresh_exists ats n h = and_both h (and_both (not_false unnamed) (gap_below test bound))
  where
    test : ℕ → Bool
    test v = named ats (n, v)

    bound : ℕ
    bound = suc (length ats)

    unnamed : named ats (n, fresh_value ats n) ≡ false
    unnamed =
        let l = full ats n (fresh_value ats n) (gap_below test bound) in
        ⊎_elim (λ e. absurd (omega arith)) (λ e. e) (gap_fails test bound)

pub fresh_unnamed : (ats : List Pair) (x : Pair) → fresh ats x ≡ true → named ats x ≡ false
fresh_unnamed ats x h = not-true _ (and_left _ (and_right (has ats x.0) h))

fresh_above : (ats : List Pair) (x : Pair) → fresh ats x ≡ true → all_below (λ v. named ats (x.0, v)) x.1 ≡ true
fresh_above ats x h = and_right (not (named ats x)) (and_right (has ats x.0) h)

pub fresh_small : (ats : List Pair) (x : Pair) → fresh ats x ≡ true → x.1 ≤ length ats
fresh_small ats x h = full ats x.0 x.1 (fresh_above ats x h)

pub fresh_one : (ats : List Pair) (n v w : ℕ) → fresh ats (n, v) ≡ true → fresh ats (n, w) ≡ true → v ≡ w
fresh_one ats n v w h k =
    let a : (v < w → ⊥) = apart v w h k in
    let b : (w < v → ⊥) = apart w v k h in
    omega arith
  where
    apart : (v w : ℕ) → fresh ats (n, v) ≡ true → fresh ats (n, w) ≡ true → v < w → ⊥
    apart v w h k l = clash (below_at (λ z. named ats (n, z)) w (fresh_above ats (n, w) k) v l) (fresh_unnamed ats (n, v) h)
