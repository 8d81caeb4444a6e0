-- What an operation that reads a policy file tells of it with a refusal of 15 or 5.
use Rattle.std.specs.Prelude.{ℕ, List}
use Rattle.files.specs.Due.{Slip, Rubbish}
use Rattle.sinkheron.specs.Answer.{refusal, Promise}

-- the byte at the place is a tag of the other sort than the one due there; it is a tag of neither
pub record TellsByte {A M : Type 0} (policy : List ℕ) (permits : Promise A M) : Type 0 where
  pub slip : {at : ℕ} {after : M} → permits (refusal 15 at) after → Slip policy at
  pub rubbish : {at : ℕ} {after : M} → permits (refusal 5 at) after → Rubbish policy at
