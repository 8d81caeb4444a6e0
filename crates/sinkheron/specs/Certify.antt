-- The promise of certify. No memory is lent, so nothing (tt) is held before and after.
use Rattle.std.specs.Prelude.{ℕ, ◌*◌, ◌^◌, List, Option, Result}
use Rattle.ptacl.specs.Rules.{Certificate}
use Rattle.certify.specs.Numbers.{number_of}
use Rattle.certify.specs.declared.rule.Rule.{Rule}
use Rattle.sinkheron.specs.Answer.{Answer, Promise}
use Rattle.sinkheron.specs.Ways.{OfPolicy, The, Gives}
use Rattle.sinkheron.specs.Refusals as R
use Rattle.sinkheron.specs.declared.refusal.Refusal.{Refusal}

-- the certificate's number; at the C face in bits 12 to 15
abbrev pub answer_of : Result (Option Rule) Refusal → Answer ℕ
answer_of r = R.answer_of number_of r

abbrev pub bits : ℕ → ℕ
bits k = k * 2 ^ 12

-- the policy's refusals; the smallest number that applies, or 0
abbrev pub Certifies : List ℕ → Promise ℕ (Unit {0})
Certifies policy =
    OfPolicy policy tt (λ p.
    The (Certificate p) (λ k.
    Gives k tt))
