-- The pairs of a numbered subset, chosen one by one; and how many they are.
use Prim.Native.Nat.{ℕ, zero, suc, ◌+◌, ◌-◌, ◌/◌, ◌%◌, ◌^◌, ◌≤◌, ◌<◌}
use mathlib.Core.Path.{◌≡◌, sym, ap, ◌∙◌}
use mathlib.Core.Bool.{true, false, cond}
use mathlib.Core.List.{List, [], ◌∷◌, ◌++◌, append_assoc}
use native.Mathlib.Numerals.{add-one}
use native.Mathlib.Nat.{div-div-eq-div-mul}
use native.Mathlib.Omega.{arith}
use lib.ListN.{length, drop, get_or, length-append}
use lib.Pow.{pow-add}
use lib.Seq.{drop-cons}
use borrow.Author.Tests.{eqb-true, eq-eqb, ne_eqb}
use Rattle.ptacl.specs.Exposure.{bit, subset}
use Rattle.ptacl.proofs.Bools.{either}
use Rattle.ptacl.proofs.Bits.{odd, bit_zero, bit_suc, less_low, less_odd, less_high}

-- of the pairs before i those of the subset were chosen
pub record Chosen {A : Type 0} (pairs : List A) (m : ℕ) (chosen : List A) (i : ℕ) : Type 0 where
  pub few : length chosen ≤ i
  pub whole : chosen ++ subset (drop i pairs) (m / 2 ^ i) ≡ subset pairs m

module _ {A : Type 0} (pairs : List A) (m : ℕ) where
  module _ {chosen : List A} {i : ℕ} (c : Chosen pairs m chosen i) where
    module _ (d : A) (h : i < length pairs) where
      abbrev others : List A
      others = subset (drop (i + 1) pairs) (m / 2 ^ (i + 1))

      next : subset (drop i pairs) (m / 2 ^ i) ≡ cond (odd (m / 2 ^ i)) (get_or pairs i d ∷ others) others
      next =
          let half : m / 2 ^ i / 2 ≡ m / 2 ^ (i + 1) = div-div-eq-div-mul m (2 ^ i) 2 ∙ ap (λ k. m / k) (sym (pow-add 2 i 1)) in
          rw (drop-cons pairs i d h, half, add-one i)

      pub chosen_with : {x : A} → x ≡ get_or pairs i d → m / 2 ^ i % 2 ≡ 1 → {more : List A} → more ≡ chosen ++ (x ∷ []) → Chosen pairs m more (i + 1)
      chosen_with {x} is e {more} f =
          let y = get_or pairs i d in
          rw (f, is) (record {
            few = omega (arith, c.few, length-append chosen (y ∷ []));
            whole =
                append_assoc chosen (y ∷ []) others
                ∙ (ap (λ l. chosen ++ l) (sym (next ∙ ap (λ b. cond b (y ∷ others) others) (eq-eqb (m / 2 ^ i % 2) 1 e))) ∙ c.whole);
          })

      pub chosen_without : (m / 2 ^ i % 2 ≡ 1 → ⊥) → Chosen pairs m chosen (i + 1)
      chosen_without e = record {
        few = omega (arith, c.few);
        whole = ap (λ l. chosen ++ l) (sym (next ∙ ap (λ b. cond b (get_or pairs i d ∷ others) others) (ne_eqb (m / 2 ^ i % 2) 1 e))) ∙ c.whole;
      }

-- a subset has at most all pairs; less one of its bits, one pair fewer
pub subset_most : {A : Type 0} (ps : List A) (m : ℕ) → length (subset ps m) ≤ length ps
subset_most [] m = omega arith
subset_most (x ∷ ps) m = let l = subset_most ps (m / 2) in either (odd m) (λ h. rw h (omega arith)) (λ h. rw h (omega arith))

pub subset_less : {A : Type 0} (ps : List A) (m i : ℕ) → i < length ps → bit m i ≡ true
    → length (subset ps m) ≡ suc (length (subset ps (m - 2 ^ i)))
subset_less [] m i l h = absurd (omega arith)
subset_less (x ∷ ps) m zero l h =
    let o : odd m ≡ true = sym (bit_zero m) ∙ h in
    let n : odd (m - 1) ≡ false = ne_eqb ((m - 1) % 2) 1 (λ z. omega (arith, eqb-true (m % 2) 1 o)) in
    rw (o, n, less_low m h)
subset_less (x ∷ ps) m (suc i) l h =
    let e = subset_less ps (m / 2) i (omega arith) (sym (bit_suc m i) ∙ h) in
    rw (less_odd m i h, less_high m i h) (either (odd m) (λ b. rw b (ap suc e)) (λ b. rw b e))
