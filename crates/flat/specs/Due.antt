-- A term that is due, and how deep it may be; and the byte that stands for it: twice that, and one more for a policy.
use Rattle.std.specs.Prelude.{ℕ, zero, suc, ◌+◌, ◌*◌, ◌/◌, ◌%◌, ◌<◌, ◌≡◌, refl}
use native.Mathlib.Omega.{arith}
use Rattle.files.specs.declared.tag.Sort.{Sort}

pub record DueTerm : Type 0 where
  pub sort : Sort
  pub left : ℕ

-- a sort by the byte's last bit, and back
abbrev pub sort_of_bit : ℕ → Sort
sort_of_bit zero = Sort.Target
sort_of_bit (suc n) = Sort.Policy

abbrev pub bit_of_sort : Sort → ℕ
bit_of_sort Sort.Target = 0
bit_of_sort Sort.Policy = 1

abbrev pub due_in : ℕ → DueTerm
due_in byte = record { sort = sort_of_bit (byte % 2); left = byte / 2 }

abbrev pub byte_for : DueTerm → ℕ
byte_for d = 2 * d.left + bit_of_sort d.sort

bit_again : (n : ℕ) → n < 2 → bit_of_sort (sort_of_bit n) ≡ n
bit_again zero h = refl
bit_again (suc zero) h = refl
bit_again (suc (suc n)) h = absurd (omega (arith, h))

pub byte_for-due_in : (n : ℕ) → byte_for (due_in n) ≡ n
byte_for-due_in n = let b : n % 2 < 2 = omega arith in omega (arith, bit_again (n % 2) b)
