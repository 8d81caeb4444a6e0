-- What a public operation answers, what a promise is, and when it leaves one outcome. The C face's packed word.
use Rattle.std.specs.Prelude.{ℕ, ◌+◌, ◌*◌, ◌^◌, ◌<◌, ◌≡◌}

-- a refusal with its number and place, or a success with its values
pub data Answer (A : Type 0) : Type 0 where
  refusal : ℕ → ℕ → Answer A
  success : A → Answer A

-- each answer carries a number (0 is success) and a place (0 with number 0); in a refusal every other field is 0
abbrev pub number : {A : Type 0} → Answer A → ℕ
number (refusal n at) = n
number (success v) = 0

abbrev pub place : {A : Type 0} → Answer A → ℕ
place (refusal n at) = at
place (success v) = 0

abbrev pub value : {A : Type 0} → (A → ℕ) → Answer A → ℕ
value f (refusal n at) = 0
value f (success v) = f v

-- the answers that an input may get, each with what the lent memory then holds
abbrev pub Promise : Type 0 → Type 0 → Type 1
Promise A M = Answer A → M → Type 0

-- for an input there is one value of the code's type, and with it one content of the lent memory; a refusal's number is above 0
pub record OneOutcome {E A M : Type 0} (answer_of : E → Answer A) (permits : Promise A M) : Type 0 where
  pub outcomes : {r r' : E} {m m' : M} → permits (answer_of r) m → permits (answer_of r') m' → ◌≡◌ {A = E × M} (r, m) (r', m')
  pub refusals : {n at : ℕ} {m : M} → permits (refusal n at) m → 0 < n

-- the C face: the number in bits 0 to 7, the place in bits 8 to 39, each operation's values in bits of their own
abbrev pub word : {A : Type 0} → (A → ℕ) → Answer A → ℕ
word bits x = number x + (place x * 2 ^ 8 + value bits x)

-- a word is said, and memory left so, where the operation may answer what the word packs
pub record Says {E A M : Type 0} (answer_of : E → Answer A) (bits : A → ℕ) (permits : Promise A M) (w : ℕ) (after : M) : Type 0 where
  pub answer : E
  pub permitted : permits (answer_of answer) after
  pub is_word : w ≡ word bits (answer_of answer)
