-- The promise of write_text.
use Rattle.std.specs.Prelude.{ℕ, List}
use Rattle.text.specs.Line.{line}
use Rattle.sinkheron.specs.Answer.{Promise}
use Rattle.sinkheron.specs.Ways.{OfPolicy, Writes}

-- the policy's refusals; 13 or its line; with the lent space before and after
abbrev pub WritesText : List ℕ → List ℕ → Promise ℕ (List ℕ)
WritesText policy before = OfPolicy policy before (λ p. Writes (line p) before)
