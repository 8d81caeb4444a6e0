-- What a search answers for a policy and its pairs, and what it leaves in the lent space.
use Rattle.std.specs.Prelude.{ℕ, List, ◌++◌, length, Option, Some, None}
use Rattle.ptacl.specs.Request.{Pair}
use Rattle.ptacl.specs.Term.{Policy}
use Rattle.ptacl.specs.Exposure.{subset, one_pair, Exposure, First}
use Rattle.files.specs.Encoding.{request_file}
use Rattle.files.specs.Memory.{over}
use Rattle.search.specs.declared.Exposed.{Exposed}

-- two request files: the smaller first, and the larger straight behind it
unfoldable pub two_files : List Pair → ℕ → ℕ → List ℕ
two_files ps smaller larger = request_file (subset ps smaller) ++ request_file (subset ps larger)

-- the files of an exposure (m, i)
abbrev pub exposure_files : List Pair → ℕ → ℕ → List ℕ
exposure_files ps m i = two_files ps (one_pair.less m i) m

pub data Found (p : Policy) (ps : List Pair) (before : List ℕ) : Option Exposed → List ℕ → Type 0 where
  none : ((m i : ℕ) → Exposure p ps m i → ⊥) → Found p ps before None before
  first : {m i : ℕ} → First (Exposure p ps) m i
      → Found p ps before (Some (record { m = m; i = i; bytes = length (exposure_files ps m i) })) (over (exposure_files ps m i) before)
