-- What reading and writing a line leave in lent memory.
use Rattle.std.specs.Prelude.{ℕ, ◌≤◌, ◌≡◌, List, length, take}
use Rattle.ptacl.specs.Term.{Policy}
use Rattle.files.specs.Refusal.{Read, accepted}

-- a policy was read, and the first n bytes of the memory are what is written of it
pub record Holds (write : Policy → List ℕ) (after : List ℕ) (read : Read Policy) (n : ℕ) : Type 0 where
  pub its : Policy
  pub is : read ≡ accepted its
  pub bytes : n ≡ length (write its)
  pub front : take n after ≡ write its
  pub few : n ≤ 4593
