-- The promise of normal_form.
use Rattle.std.specs.Prelude.{ℕ, List}
use Rattle.ptacl.specs.Term.{atoms}
use Rattle.ptacl.specs.Pairs.{IsNormal}
use Rattle.files.specs.Encoding.{request_file}
use Rattle.sinkheron.specs.Answer.{Promise}
use Rattle.sinkheron.specs.Ways.{OfPolicy, OfRequest, The, Writes}

-- the policy's refusals; the request's; 13 or the file of the normal form; with the lent space before and after
abbrev pub Normalises : List ℕ → List ℕ → List ℕ → Promise ℕ (List ℕ)
Normalises policy request before =
    OfPolicy policy before (λ p.
    OfRequest request before (λ q.
    The (IsNormal (atoms p) q) (λ r.
    Writes (request_file r) before)))
