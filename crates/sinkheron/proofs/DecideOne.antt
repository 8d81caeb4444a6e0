-- decide's promise leaves one outcome.
use Prim.Native.Nat.{ℕ}
use mathlib.Core.Path.{◌≡◌, refl, ap}
use mathlib.Core.List.{List}
use Rattle.std.specs.Prelude.{Result}
use Rattle.ptacl.specs.declared.DecisionSet.{DecisionSet}
use Rattle.files.specs.Encoding.{Bytes}
use Rattle.sinkheron.specs.declared.refusal.Refusal.{Refusal}
use Rattle.sinkheron.specs.Answer.{OneOutcome}
use Rattle.sinkheron.specs.Decide.{answer_of, Decides}
use Rattle.sinkheron.proofs.Ranges.{decide_ranged}
use Rattle.sinkheron.proofs.OneOutcome.{One, results_same, one_outcome, policy_one, request_one, refused_if_one, gives_one}

abbrev set_of : ℕ → DecisionSet
set_of k = record { code = k }

-- whatever the bytes
pub decide_same : {policy request : List ℕ} → One (Decides policy request)
decide_same = policy_one (λ p. request_one (λ q. refused_if_one gives_one))

pub decision_same : {policy request : List ℕ} (r r' : Result DecisionSet Refusal) → Decides policy request (answer_of r) tt → Decides policy request (answer_of r') tt → r ≡ r'
decision_same r r' d e = results_same set_of (λ set. set.code) (λ set. refl) r r' (ap (λ z. z.0) (decide_same _ _ tt tt d e))

pub decide_one : {policy request : List ℕ} → Bytes policy → OneOutcome answer_of (Decides policy request)
decide_one b = one_outcome set_of (λ set. set.code) (λ set. refl) decide_same (decide_ranged b)
