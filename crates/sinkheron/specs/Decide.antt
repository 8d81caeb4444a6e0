-- The promise of decide. No memory is lent, so nothing (tt) is held before and after.
use Rattle.std.specs.Prelude.{ℕ, ◌*◌, ◌^◌, List, eqb, Result}
use Rattle.ptacl.specs.Values.{is_empty, code}
use Rattle.ptacl.specs.Meaning.{eval}
use Rattle.ptacl.specs.declared.DecisionSet.{DecisionSet}
use Rattle.sinkheron.specs.Answer.{Answer, Promise}
use Rattle.sinkheron.specs.Ways.{OfPolicy, OfRequest, RefusedIf, Gives}
use Rattle.sinkheron.specs.Refusals as R
use Rattle.sinkheron.specs.declared.refusal.Refusal.{Refusal}

-- the set's code; at the C face in bits 8 to 10
abbrev pub answer_of : Result DecisionSet Refusal → Answer ℕ
answer_of r = R.answer_of (λ set. set.code) r

abbrev pub bits : ℕ → ℕ
bits s = s * 2 ^ 8

-- 14 for the code of the empty set, else the set
abbrev pub OfSet : ℕ → Promise ℕ (Unit {0})
OfSet k = RefusedIf (eqb k 0) 14 0 tt (Gives k tt)

-- the policy's refusals; the request's; 14; the set
abbrev pub Decides : List ℕ → List ℕ → Promise ℕ (Unit {0})
Decides policy request =
    OfPolicy policy tt (λ p.
    OfRequest request tt (λ q.
    RefusedIf (is_empty (eval p q)) 14 0 tt
    (Gives (code (eval p q)) tt)))
