-- The promise of search.
use Rattle.std.specs.Prelude.{ℕ, ◌+◌, ◌*◌, ◌^◌, List, ltb, length, Result}
use Rattle.ptacl.specs.Request.{Pair}
use Rattle.ptacl.specs.Term.{Policy, atoms}
use Rattle.ptacl.specs.Pairs.{IsPairs}
use Rattle.ptacl.specs.Exposure.{Resistant, Exposure, First}
use Rattle.files.specs.Memory.{over}
use Rattle.search.specs.Found.{exposure_files}
use Rattle.sinkheron.specs.Answer.{Answer, success, Promise}
use Rattle.sinkheron.specs.Ways.{OfPolicy, The, RefusedIf}
use Rattle.sinkheron.specs.Refusals as R
use Rattle.sinkheron.specs.declared.refusal.Refusal.{Refusal}
use Rattle.sinkheron.specs.declared.Verdict.{Verdict}

-- verdict (0 resistant, 1 exposed), the number of pairs, m, i, bytes written
pub record Values : Type 0 where
  pub verdict : ℕ
  pub pairs : ℕ
  pub subset : ℕ
  pub hides : ℕ
  pub bytes : ℕ

abbrev pub values_of : Verdict → Values
values_of (Verdict.Resistant k) = record { verdict = 0; pairs = k; subset = 0; hides = 0; bytes = 0 }
values_of (Verdict.Exposed k m i b) = record { verdict = 1; pairs = k; subset = m; hides = i; bytes = b }

abbrev pub resistant : ℕ → Answer Values
resistant k = success (values_of (Verdict.Resistant k))

abbrev pub exposed : ℕ → ℕ → ℕ → ℕ → Answer Values
exposed k m i b = success (values_of (Verdict.Exposed k m i b))

abbrev pub answer_of : Result Verdict Refusal → Answer Values
answer_of r = R.answer_of values_of r

-- the verdict in bit 8, the number of pairs in bits 16 to 23, bytes written in bits 24 to 31, m in bits 32 to 47, i in bits 48 to 63
abbrev pub bits : Values → ℕ
bits v = v.verdict * 2 ^ 8 + v.pairs * 2 ^ 16 + v.bytes * 2 ^ 24 + v.subset * 2 ^ 32 + v.hides * 2 ^ 48

-- resistant, or the first exposure
pub data Judges (p : Policy) (ps : List Pair) (before : List ℕ) : Answer Values → List ℕ → Type 0 where
  is_resistant : Resistant p → Judges p ps before (resistant (length ps)) before
  is_exposed : {m i : ℕ} → First (Exposure p ps) m i
      → Judges p ps before (exposed (length ps) m i (length (exposure_files ps m i))) (over (exposure_files ps m i) before)

-- the policy's refusals; 12; 13; the verdict; with the lent space before and after
abbrev pub Searches : List ℕ → List ℕ → Promise Values (List ℕ)
Searches policy before =
    OfPolicy policy before (λ p.
    The (IsPairs (atoms p)) (λ ps.
    RefusedIf (ltb 16 (length ps)) 12 0 before
    (RefusedIf (ltb (length before) 130) 13 0 before
    (Judges p ps before))))
