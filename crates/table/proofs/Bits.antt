-- The bits of a word: under and, or and not, of the constant words, and of the words of the pairs.
use Prim.Native.Nat.{ℕ, zero, suc, ◌+◌, ◌*◌, ◌-◌, ◌/◌, ◌%◌, ◌^◌, ◌≤◌, ◌<◌, min, max}
use mathlib.Core.Path.{◌≡◌, refl, sym, ap, ◌∙◌}
use mathlib.Core.Bool.{Bool, true, false, not, ◌&&◌, ◌||◌}
use mathlib.Core.List.{List, [], ◌∷◌}
use native.Mathlib.Nat.{zero-div}
use native.Mathlib.Omega.{arith}
use lib.Bits.{bit_and, bit_or}
use mir.Syntax.{w64}
use Rattle.std.specs.Int.{bit_at}
use Rattle.std.proofs.lemmas.Nat.Bits.{bit_at-lt, bit_at_and, bit_at_or, bit_at_not}
use lib.Dec.{eqb}
use lib.ListN.{get_or}
use lib.Pow.{shr-shr, field, mod-mod-pow}
use borrow.Author.Tests.{eqb-true, eq-eqb, ne_eqb}
use Rattle.ptacl.specs.Exposure.{bit}
use Rattle.ptacl.specs.Pairs.{all_below}
use Rattle.ptacl.proofs.Bools.{below_at}
use Rattle.ptacl.proofs.Bits.{odd}
use Rattle.table.specs.Rows.{PairWord}

-- a bit by its digit
two : (C : ℕ → Type 0) (x : ℕ) → x < 2 → C 0 → C 1 → C x
two C zero h a b = a
two C (suc zero) h a b = b
two C (suc (suc x)) h a b = absurd (omega arith)

pub bit_of_and : (a b j : ℕ) → bit (bit_and a b) j ≡ (bit a j && bit b j)
bit_of_and a b j = ap (λ x. eqb x 1) (bit_at_and a b j)
    ∙ two (λ x. eqb (min x (bit_at b j)) 1 ≡ (eqb x 1 && bit b j)) (bit_at a j) (bit_at-lt a j)
    (two (λ y. eqb (min 0 y) 1 ≡ (eqb 0 1 && eqb y 1)) (bit_at b j) (bit_at-lt b j) refl refl)
    (two (λ y. eqb (min 1 y) 1 ≡ (eqb 1 1 && eqb y 1)) (bit_at b j) (bit_at-lt b j) refl refl)

pub bit_of_or : (a b j : ℕ) → bit (bit_or a b) j ≡ (bit a j || bit b j)
bit_of_or a b j = ap (λ x. eqb x 1) (bit_at_or a b j)
    ∙ two (λ x. eqb (max x (bit_at b j)) 1 ≡ (eqb x 1 || bit b j)) (bit_at a j) (bit_at-lt a j)
    (two (λ y. eqb (max 0 y) 1 ≡ (eqb 0 1 || eqb y 1)) (bit_at b j) (bit_at-lt b j) refl refl)
    (two (λ y. eqb (max 1 y) 1 ≡ (eqb 1 1 || eqb y 1)) (bit_at b j) (bit_at-lt b j) refl refl)

-- the constant words
abbrev pub ones : ℕ
ones = 0xFFFFFFFFFFFFFFFF

pub bit_ones : (j : ℕ) → j < 64 → bit ones j ≡ true
bit_ones = below_at (bit ones) 64 refl

pub bit_none : (j : ℕ) → bit 0 j ≡ false
bit_none j = ap odd (zero-div (2 ^ j))

pub bit_of_not : (a j : ℕ) → a < 2 ^ 64 → j < 64 → bit (2 ^ 64 - 1 - a) j ≡ not (bit a j)
bit_of_not a j f h = ap (λ x. eqb x 1) (bit_at_not w64 a j f h)
    ∙ two (λ x. eqb (1 - x) 1 ≡ not (eqb x 1)) (bit_at a j) (bit_at-lt a j) refl refl

-- the words of the first six pairs, by one test of their bits
abbrev low : List ℕ
low =
    0xAAAAAAAAAAAAAAAA
    ∷ 0xCCCCCCCCCCCCCCCC
    ∷ 0xF0F0F0F0F0F0F0F0
    ∷ 0xFF00FF00FF00FF00
    ∷ 0xFFFF0000FFFF0000
    ∷ 0xFFFFFFFF00000000
    ∷ []

abbrev same_digit : ℕ → ℕ → Bool
same_digit i j = eqb (get_or low i 0 / 2 ^ j % 2) (j / 2 ^ i % 2)

low_bit : (i j : ℕ) → i < 6 → j < 64 → bit (get_or low i 0) j ≡ bit j i
low_bit i j h g =
    let e : get_or low i 0 / 2 ^ j % 2 ≡ j / 2 ^ i % 2 =
    eqb-true _ _ (below_at (same_digit i) 64 (below_at (λ k. all_below (same_digit k) 64) 6 refl i h) j g) in
    ap (λ x. eqb x 1) e

-- the bits below e of the rest by 2 ^ e, and the bits of the quotient by 2 ^ s
pub bit_mod : (n e i : ℕ) → i < e → bit (n % 2 ^ e) i ≡ bit n i
bit_mod n e i h =
    let d = e - i - 1 in
    let k : d + 1 + i ≡ e = omega arith in
    let f = ap (λ x. x % 2) (field n (d + 1) i) ∙ mod-mod-pow (n / 2 ^ i) d 1 in
    ap (λ x. eqb x 1) (sym (ap (λ x. n % 2 ^ x / 2 ^ i % 2) k) ∙ f)

pub bit_div : (n s i : ℕ) → s ≤ i → bit n i ≡ bit (n / 2 ^ s) (i - s)
bit_div n s i h = let k : i ≡ s + (i - s) = omega arith in ap (bit n) k ∙ ap odd (sym (shr-shr n s (i - s)))

-- a bit of 64 * w + j is one of j below the sixth, else one of w
module _ (w i j : ℕ) (g : j < 64) where
  pub bit_low : i < 6 → bit (64 * w + j) i ≡ bit j i
  bit_low h = let e : (64 * w + j) % 64 ≡ j = omega arith in sym (bit_mod (64 * w + j) 6 i h) ∙ ap (λ x. bit x i) e

  pub bit_high : 6 ≤ i → bit (64 * w + j) i ≡ bit w (i - 6)
  bit_high h = let e : (64 * w + j) / 64 ≡ w = omega arith in bit_div (64 * w + j) 6 i h ∙ ap (λ x. bit x (i - 6)) e

module _ (w i : ℕ) where
  pub pair_low : {x : ℕ} → x ≡ get_or low i 0 → i < 6 → PairWord w i x
  pair_low e h = record { pattern = λ j g. ap (λ x. bit x j) e ∙ low_bit i j h g ∙ sym (bit_low w i j g h) }

  pub pair_ones : 6 ≤ i → w / 2 ^ (i - 6) % 2 ≡ 1 → PairWord w i ones
  pair_ones h e = record { pattern = λ j g. bit_ones j g ∙ sym (bit_high w i j g h ∙ eq-eqb _ _ e) }

  pub pair_none : 6 ≤ i → (w / 2 ^ (i - 6) % 2 ≡ 1 → ⊥) → PairWord w i 0
  pair_none h e = record { pattern = λ j g. bit_none j ∙ sym (bit_high w i j g h ∙ ne_eqb _ _ e) }

pub ruleset pair_laws = (pair_low, pair_ones, pair_none)
