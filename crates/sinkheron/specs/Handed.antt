-- What is written, read back.
use Rattle.std.specs.Prelude.{ℕ, ◌≤◌, ◌≡◌, List, ◌++◌, length, take}
use Rattle.ptacl.specs.Request.{Request, Within}
use Rattle.files.specs.Encoding.{IsRequest}
use Rattle.files.specs.Memory.{over}
use Rattle.sinkheron.specs.Answer.{Answer, success, Promise}
use Rattle.sinkheron.specs.Decide.{Decides}

-- What the reporting desk is handed with an exposure: two request files within the limits, one straight behind the other at the front
-- of the lent space, the smaller request within the larger. For the smaller decide answers allow alone, for the larger it does not.
pub record Handed (policy space : List ℕ) (bytes : ℕ) : Type 0 where
  pub smaller : List ℕ
  pub larger : List ℕ
  pub files : take bytes space ≡ smaller ++ larger
  pub less : Request
  pub more : Request
  pub smaller_file : IsRequest smaller less
  pub larger_file : IsRequest larger more
  pub within : Within less more
  pub released : Decides policy smaller (success 1) tt
  pub held : Decides policy larger (success 1) tt → ⊥

-- what is written of a normal form is a request file within the limits, and decide answers for it as for the request
pub record ReadBack (policy request written : List ℕ) : Type 0 where
  pub normal : Request
  pub file : IsRequest written normal
  pub same : (x : Answer ℕ) → Decides policy request x tt → Decides policy written x tt

-- lent to the other operation, what was written gives back what was lent to the first, wherever there is room for it: no other outcome is
-- permitted
pub record GivesBack (other : List ℕ → List ℕ → Promise ℕ (List ℕ)) (input written : List ℕ) : Type 0 where
  pub back : {space after : List ℕ} {x : Answer ℕ} → length input ≤ length space → other written space x after
      → ◌≡◌ {A = Answer ℕ × List ℕ} (x, after) (success (length input), over input space)
