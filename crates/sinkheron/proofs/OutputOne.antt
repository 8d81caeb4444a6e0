-- The promises of the operations that write a file or a line leave one outcome.
use Prim.Native.Nat.{ℕ}
use mathlib.Core.Path.{refl}
use mathlib.Core.List.{List}
use Rattle.ptacl.proofs.Normal.{normal_unique}
use Rattle.files.specs.Encoding.{Bytes}
use Rattle.sinkheron.specs.Answer.{OneOutcome}
use Rattle.sinkheron.specs.Output.{answer_of}
use Rattle.sinkheron.specs.NormalForm.{Normalises}
use Rattle.sinkheron.specs.ReadText.{ReadsText}
use Rattle.sinkheron.specs.WriteText.{WritesText}
use Rattle.sinkheron.proofs.Ranges.{normal_form_ranged, read_text_ranged, write_text_ranged}
use Rattle.sinkheron.proofs.OneOutcome.{One, one_outcome, policy_one, text_one, request_one, the_one, refused_if_one, gives_one}

-- whatever the bytes, one answer
pub normal_form_same : {policy request before : List ℕ} → One (Normalises policy request before)
normal_form_same = policy_one (λ p. request_one (λ q. the_one (λ t u h k. normal_unique h k) (λ r. refused_if_one gives_one)))

pub normal_form_one : {policy request before : List ℕ} → Bytes policy → OneOutcome answer_of (Normalises policy request before)
normal_form_one b = one_outcome (λ k. k) (λ k. k) (λ k. refl) normal_form_same (normal_form_ranged b)

pub read_text_same : {text before : List ℕ} → One (ReadsText text before)
read_text_same = text_one (λ p. refused_if_one gives_one)

pub write_text_same : {policy before : List ℕ} → One (WritesText policy before)
write_text_same = policy_one (λ p. refused_if_one gives_one)

pub read_text_one : {text before : List ℕ} → OneOutcome answer_of (ReadsText text before)
read_text_one = one_outcome (λ k. k) (λ k. k) (λ k. refl) read_text_same read_text_ranged

pub write_text_one : {policy before : List ℕ} → Bytes policy → OneOutcome answer_of (WritesText policy before)
write_text_one b = one_outcome (λ k. k) (λ k. k) (λ k. refl) write_text_same (write_text_ranged b)
