-- Numbered subsets: what the subset numbered m holds, and the number of the pairs that pass a test, so of the normal form.
use Prim.Native.Nat.{ℕ, zero, suc, ◌<◌, ◌-◌, ◌^◌, ◌/◌}
use mathlib.Core.Path.{◌≡◌, refl, sym, ap, subst, ◌∙◌}
use mathlib.Core.Bool.{Bool, true, false, cond, ◌&&◌, ◌||◌, and-true, and-false, or-false}
use mathlib.Core.List.{List, [], ◌∷◌, map}
use native.Mathlib.Omega.{arith}
use lib.ListN.{length, get_or}
use Rattle.ptacl.specs.Request.{Pair, Request, same_pair, holds, Within, below, below_head, ascending}
use Rattle.ptacl.specs.Pairs.{named, fresh, named_or_fresh, unnamed, normal, IsPairs, IsNormal}
use Rattle.ptacl.specs.Exposure.{bit, subset}
use Rattle.ptacl.proofs.Bools.{either, refute, and_left, and_right, and_both, and_up, or_right, or_up, via, iff}
use Rattle.ptacl.proofs.Requests.{pair_equal, pair_same, holds_head}
use Rattle.ptacl.proofs.Order.{head_below, below_apart, cons_ascending}
use Rattle.ptacl.proofs.Pairs.{pairs_exist}
use Rattle.ptacl.proofs.Bits.{odd, bit_zero, bit_suc, less_low, less_odd, less_high, put, put_odd, put_half, put_small}

pub subset_map : {A B : Type 0} (f : A → B) (xs : List A) (m : ℕ) → subset (map f xs) m ≡ map f (subset xs m)
subset_map f [] m = refl
subset_map f (x ∷ xs) m = rw (subset_map f xs (m / 2)) (either (odd m) (λ h. rw h) (λ h. rw h))

-- a pair put before a request under a condition
holds_if : (b : Bool) (y : Pair) (q : Request) (x : Pair) → holds (cond b (y ∷ q) q) x ≡ (b && same_pair y x || holds q x)
holds_if true y q x = refl
holds_if false y q x = refl

pub subset_within : (ps : List Pair) (m : ℕ) → Within (subset ps m) ps
subset_within [] m = record { up = λ x h. h }
subset_within (y ∷ ps) m = record {
  up = λ x. via (holds_if (odd m) y (subset ps (m / 2)) x) refl
      (or_up (odd m && same_pair y x) (holds (subset ps (m / 2)) x) (and_right (odd m)) ((subset_within ps (m / 2)).up x));
}

pub subset_ascending : (ps : List Pair) → ascending ps ≡ true → (m : ℕ) → ascending (subset ps m) ≡ true
subset_ascending [] a m = refl
subset_ascending (y ∷ ps) a m =
    let tail = subset_ascending ps (and_right (below_head y ps) a) (m / 2) in
    either (odd m) (λ h. rw h (cons_ascending y (subset ps (m / 2)) later tail)) (λ h. rw h tail)
  where
    later : (z : Pair) → holds (subset ps (m / 2)) z ≡ true → below y z ≡ true
    later z h = head_below y ps a z ((subset_within ps (m / 2)).up z h)

get_d_held : (ps : List Pair) (i : ℕ) → i < length ps → holds ps (get_or ps i (0, 0)) ≡ true
get_d_held [] i l = absurd (omega arith)
get_d_held (y ∷ ps) zero l = holds_head y ps
get_d_held (y ∷ ps) (suc i) l = or_right (same_pair y (get_or ps i (0, 0))) (get_d_held ps i (omega arith))

-- the subset m holds pair i exactly if bit i of m is 1
pub subset_holds : (ps : List Pair) → ascending ps ≡ true → (m i : ℕ) → i < length ps → holds (subset ps m) (get_or ps i (0, 0)) ≡ bit m i
subset_holds [] a m i l = absurd (omega arith)
subset_holds (y ∷ ps) a m zero l =
    holds_if (odd m) y (subset ps (m / 2)) y ∙ (rw (pair_same y, absent) (or-false (odd m && true) ∙ and-true (odd m)) ∙ sym (bit_zero m))
  where
    absent : holds (subset ps (m / 2)) y ≡ false
    absent = refute (λ h. below_apart y y (head_below y ps a y ((subset_within ps (m / 2)).up y h)) refl)
subset_holds (y ∷ ps) a m (suc i) l =
    let z = get_or ps i (0, 0) in
    let b = head_below y ps a z (get_d_held ps i (omega arith)) in
    let apart : same_pair y z ≡ false = refute (λ h. below_apart y z b (pair_equal y z h)) in
    holds_if (odd m) y (subset ps (m / 2)) z
    ∙ (rw (apart, and-false (odd m)) (subset_holds ps (and_right (below_head y ps) a) (m / 2) i (omega arith)) ∙ sym (bit_suc m i))

-- less one of its bits, a smaller subset
cons_within : (y : Pair) (ps : List Pair) (m' m : ℕ) → (odd m' ≡ true → odd m ≡ true) → Within (subset ps (m' / 2)) (subset ps (m / 2))
    → Within (subset (y ∷ ps) m') (subset (y ∷ ps) m)
cons_within y ps m' m f w = record {
  up = λ x. via (holds_if (odd m') y (subset ps (m' / 2)) x) (holds_if (odd m) y (subset ps (m / 2)) x)
      (or_up (odd m' && same_pair y x) (holds (subset ps (m' / 2)) x) (and_up (odd m') (same_pair y x) f (λ h. h)) (w.up x));
}

pub less_within : (ps : List Pair) (m i : ℕ) → bit m i ≡ true → Within (subset ps (m - 2 ^ i)) (subset ps m)
less_within [] m i h = record { up = λ x k. k }
less_within (y ∷ ps) m zero h =
    cons_within y ps (m - 1) m (λ k. sym (bit_zero m) ∙ h)
    (record { up = λ x k. subst (λ n. holds (subset ps n) x ≡ true) (less_low m h) k })
less_within (y ∷ ps) m (suc i) h =
    cons_within y ps (m - 2 ^ suc i) m (λ k. sym (less_odd m i h) ∙ k)
    (subst (λ n. Within (subset ps n) (subset ps (m / 2))) (sym (less_high m i h)) (less_within ps (m / 2) i (sym (bit_suc m i) ∙ h)))

-- the number of the subset of the pairs that pass a test
abbrev pub mask : (Pair → Bool) → List Pair → ℕ
mask f [] = 0
mask f (x ∷ ps) = put (f x) (mask f ps)

pub mask_small : (f : Pair → Bool) (ps : List Pair) → mask f ps < 2 ^ length ps
mask_small f [] = omega arith
mask_small f (x ∷ ps) = put_small (f x) (mask f ps) (length ps) (mask_small f ps)

subset_put : (y : Pair) (ps : List Pair) (b : Bool) (m : ℕ) → subset (y ∷ ps) (put b m) ≡ cond b (y ∷ subset ps m) (subset ps m)
subset_put y ps b m = rw (put_odd b m, put_half b m)

-- a test at one pair in place of another, where the two are the same
instead : (a e h c : Bool) → (e ≡ true → a ≡ c) → (a && e || h && c) ≡ ((e || h) && c)
instead a true h true k = rw (k refl)
instead a true h false k = rw (k refl) (and-false h)
instead a false h c k = rw (and-false a)

mask_holds : (f : Pair → Bool) (ps : List Pair) (x : Pair) → holds (subset ps (mask f ps)) x ≡ (holds ps x && f x)
mask_holds f [] x = refl
mask_holds f (y ∷ ps) x =
    ap (λ l. holds l x) (subset_put y ps (f y) (mask f ps))
    ∙ (holds_if (f y) y (subset ps (mask f ps)) x
    ∙ (ap (λ b. f y && same_pair y x || b) (mask_holds f ps x)
    ∙ instead (f y) (same_pair y x) (holds ps x) (f x) (λ e. ap f (pair_equal y x e))))

-- the normal form of a request is a numbered subset of the policy's pairs
normal_listed : {ats ps : List Pair} → IsPairs ats ps → (q : Request) (x : Pair) → normal ats q x ≡ true → holds ps x ≡ true
unfolding normal named_or_fresh
normal_listed {ats} h q x k =
    h.members x
    ∙ or_up (named ats x && holds q x) (fresh ats x && unnamed ats q x.0) {c = named ats x} {d = fresh ats x} (and_left _) (and_left _) k

pub normal_subset : {ats ps : List Pair} → IsPairs ats ps → (q : Request) → IsNormal ats q (subset ps (mask (normal ats q) ps))
normal_subset {ats} {ps} h q = record {
  ordered = subset_ascending ps h.ordered (mask (normal ats q) ps);
  members = λ x. mask_holds (normal ats q) ps x ∙ iff (and_right (holds ps x)) (λ k. and_both (normal_listed h q x k) k);
}

pub normal_exists : (ats : List Pair) (q : Request) → (r : Request) × IsNormal ats q r
normal_exists ats q = (_, normal_subset (pairs_exist ats) q)
