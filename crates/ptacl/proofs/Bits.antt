-- Numbers as sets of bits.
use Prim.Native.Nat.{ℕ, suc, ◌≤◌, ◌<◌, ◌+◌, ◌*◌, ◌-◌, ◌^◌, ◌/◌, ◌%◌}
use mathlib.Core.Path.{◌≡◌, sym, ap, ◌∙◌}
use mathlib.Core.Bool.{Bool, true, false, cond}
use native.Mathlib.Nat.{div-one, div-div-eq-div-mul, pow-succ', le-div_iff_mul-le}
use native.Mathlib.Omega.{arith}
use lib.Dec.{eqb}
use lib.Pow.{pow_pos, pow_mono}
use borrow.Author.Tests.{eqb-true}
use Rattle.ptacl.specs.Exposure.{bit}

abbrev pub odd : ℕ → Bool
odd m = eqb (m % 2) 1

pub bit_zero : (m : ℕ) → bit m 0 ≡ odd m
bit_zero m = ap odd (div-one m)

pub bit_suc : (m i : ℕ) → bit m (suc i) ≡ bit (m / 2) i
bit_suc m i = ap odd (ap (λ z. m / z) (pow-succ' 2 i) ∙ sym (div-div-eq-div-mul m 2 (2 ^ i)))

pub bit_le : (m i : ℕ) → bit m i ≡ true → 2 ^ i ≤ m
bit_le m i h =
    let e = eqb-true (m / 2 ^ i % 2) 1 h in
    let l = (le-div_iff_mul-le {k = 2 ^ i} {x = 1} {y = m} (pow_pos i)).0 (omega arith) in
    omega arith

-- a number below 2 ^ k has its bits below k
pub bit_below : (m k i : ℕ) → m < 2 ^ k → bit m i ≡ true → i < k
bit_below m k i l h =
    let u = bit_le m i h in
    let n : (k ≤ i → ⊥) = λ g. let p = pow_mono g in omega arith in
    omega arith

-- a number less one of its bits: the lowest bit and the others
pub less_low : (m : ℕ) → bit m 0 ≡ true → (m - 1) / 2 ≡ m / 2
less_low m h = let e = eqb-true (m % 2) 1 (sym (bit_zero m) ∙ h) in omega arith

module _ (m i : ℕ) (h : bit m (suc i) ≡ true) where
  le : 2 ^ i ≤ m / 2
  le = bit_le (m / 2) i (sym (bit_suc m i) ∙ h)

  pub less_odd : odd (m - 2 ^ suc i) ≡ odd m
  less_odd = let l = le in let e : (m - 2 ^ suc i) % 2 ≡ m % 2 = omega (arith, pow-succ' 2 i) in ap (λ z. eqb z 1) e

  pub less_high : (m - 2 ^ suc i) / 2 ≡ m / 2 - 2 ^ i
  less_high = let l = le in omega (arith, pow-succ' 2 i)

-- a number with one more bit before its bits
abbrev pub put : Bool → ℕ → ℕ
put b m = cond b 1 0 + 2 * m

pub put_odd : (b : Bool) (m : ℕ) → odd (put b m) ≡ b
put_odd true m = let e : (1 + 2 * m) % 2 ≡ 1 = omega arith in ap (λ z. eqb z 1) e
put_odd false m = let e : (0 + 2 * m) % 2 ≡ 0 = omega arith in ap (λ z. eqb z 1) e

pub put_half : (b : Bool) (m : ℕ) → put b m / 2 ≡ m
put_half true m = omega arith
put_half false m = omega arith

pub put_small : (b : Bool) (m k : ℕ) → m < 2 ^ k → put b m < 2 ^ suc k
put_small true m k l = omega (arith, pow-succ' 2 k)
put_small false m k l = omega (arith, pow-succ' 2 k)

pub put_bit : (b : Bool) (m i : ℕ) → bit (put b m) (suc i) ≡ bit m i
put_bit b m i = bit_suc (put b m) i ∙ ap (λ z. bit z i) (put_half b m)

pub put_less : (b : Bool) (m i : ℕ) → bit m i ≡ true → put b (m - 2 ^ i) ≡ put b m - 2 ^ suc i
put_less true m i h = let l = bit_le m i h in omega (arith, pow-succ' 2 i)
put_less false m i h = let l = bit_le m i h in omega (arith, pow-succ' 2 i)
