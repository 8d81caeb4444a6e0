-- The promise of read_text.
use Rattle.std.specs.Prelude.{ℕ, List}
use Rattle.files.specs.Encoding.{policy_file}
use Rattle.sinkheron.specs.Answer.{Promise}
use Rattle.sinkheron.specs.Ways.{OfText, Writes}

-- the text's refusals; 13 or the file of the policy whose line it is; with the lent space before and after
abbrev pub ReadsText : List ℕ → List ℕ → Promise ℕ (List ℕ)
ReadsText text before = OfText text before (λ p. Writes (policy_file p) before)
