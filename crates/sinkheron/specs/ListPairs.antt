-- The promise of list_pairs.
use Rattle.std.specs.Prelude.{ℕ, ◌*◌, ◌^◌, List, map, Result}
use Rattle.ptacl.specs.Term.{atoms}
use Rattle.ptacl.specs.Pairs.{IsPairs, packed}
use Rattle.sinkheron.specs.Answer.{Answer, Promise}
use Rattle.sinkheron.specs.Ways.{OfPolicy, The, Writes}
use Rattle.sinkheron.specs.Refusals as R
use Rattle.sinkheron.specs.declared.refusal.Refusal.{Refusal}

-- the number of pairs; at the C face in bits 16 to 23
abbrev pub answer_of : Result ℕ Refusal → Answer ℕ
answer_of r = R.answer_of (λ k. k) r

abbrev pub bits : ℕ → ℕ
bits k = k * 2 ^ 16

-- the policy's refusals; 13 or the list; with the lent slice before and after
abbrev pub Lists : List ℕ → List ℕ → Promise ℕ (List ℕ)
Lists policy before =
    OfPolicy policy before (λ p.
    The (IsPairs (atoms p)) (λ ps.
    Writes (map packed ps) before))
