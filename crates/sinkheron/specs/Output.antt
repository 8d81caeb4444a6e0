-- What is answered where a file or a line is written: a refusal, or its length, which the C face has in bits 32 to 47.
use Rattle.std.specs.Prelude.{ℕ, ◌*◌, ◌^◌, ◌≤◌, Result}
use Rattle.sinkheron.specs.Answer.{Answer, refusal, success}
use Rattle.sinkheron.specs.Refusals as R
use Rattle.sinkheron.specs.declared.refusal.Refusal.{Refusal}

abbrev pub answer_of : Result ℕ Refusal → Answer ℕ
answer_of r = R.answer_of (λ k. k) r

abbrev pub bits : ℕ → ℕ
bits k = k * 2 ^ 32

-- small enough for those bits
abbrev pub Small : Answer ℕ → Type 0
Small (refusal n at) = at ≤ 65538
Small (success k) = k ≤ 65535
