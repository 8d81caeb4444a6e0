-- At each return, what the reader tells of the body is what reading the file gives; of what is judged it is the certificate.
use Prim.Native.Nat.{ℕ}
use mathlib.Core.Path.{◌≡◌}
use mathlib.Core.Bool.{Bool}
use Rattle.std.proofs.Common.{ap, rules}
use Rattle.ptacl.specs.Term.{Policy}
use Rattle.ptacl.specs.Rules.{certificate}
use Rattle.files.specs.Refusal.{Read, accepted, refused}
use Rattle.files.specs.Reading.{read_map}
use Rattle.files.proofs.Whole.{whole_refused, whole_exceeded, whole_read}
use Rattle.certify.specs.declared.missing.Missing.{Missing}
use Rattle.certify.specs.Judged.{allowing}
use Rattle.certify.proofs.certificate.Goals as goal

certified : (x : Read Policy) {y : Bool × Missing × ℕ} → read_map allowing x ≡ accepted y → read_map certificate x ≡ accepted y.2
certified (accepted p) e = cc
certified (refused n at) e = cc

pub returns-in-Err : goal.returns-in-Err
returns-in-Err c = rw c.error.ensures (ap (read_map certificate) (whole_refused allowing c.in_ok-reader.ensures.opened c.in-Err.ensures.0))

pub returns-in_err-finish : goal.returns-in_err-finish
returns-in_err-finish c =
    let w = ap (read_map certificate) (whole_exceeded allowing c.in_ok-reader.ensures.opened c.in_default.ensures c.in_err-finish.ensures) in
    search rules

pub returns : goal.returns
returns c = certified _ (whole_read allowing c.in_ok-reader.ensures.opened c.in_default.ensures c.in_ok-finish.ensures)
