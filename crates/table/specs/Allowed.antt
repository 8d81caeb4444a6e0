-- The table of allowed subsets: bit m is 1 exactly if the subset numbered m is allowed.
use Rattle.std.specs.Prelude.{ℕ, ◌*◌, ◌/◌, ◌%◌, ◌<◌, ◌≡◌, Bool, List, get_or}
use Rattle.ptacl.specs.Request.{Pair}
use Rattle.ptacl.specs.Term.{Policy}
use Rattle.ptacl.specs.Meaning.{eval}
use Rattle.ptacl.specs.Exposure.{Reading, bit, subset}

-- by a reading: the subset numbered m is allowed
unfoldable pub allowed : Reading → Policy → List Pair → ℕ → Bool
allowed g p ps m = g (eval p (subset ps m))

-- bit m of a table of words
unfoldable pub bit_at : List ℕ → ℕ → Bool
bit_at t m = bit (get_or t (m / 64) 0) (m % 64)

-- the table is right at the subsets of the rows before w, 512 to a row, for this policy and these pairs
pub record Filled (g : Reading) (p : Policy) (ps : List Pair) (t : List ℕ) (w : ℕ) : Type 0 where
  pub right : (m : ℕ) → m < 512 * w → bit_at t m ≡ allowed g p ps m
