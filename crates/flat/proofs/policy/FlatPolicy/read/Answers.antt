-- At each return, what the reader tells of the body is what reading the file gives.
use Rattle.std.proofs.Common.{rules}
use Rattle.files.specs.Reading.{nothing}
use Rattle.files.proofs.Whole.{whole_refused, whole_exceeded, whole_read, accepted_is}
use Rattle.flat.proofs.Noting.{noted_places}
use Rattle.flat.proofs.policy.FlatPolicy.read.Goals as goal

pub returns-in-Err : goal.returns-in-Err
returns-in-Err c = rw c.error.ensures (whole_refused nothing c.in_ok-reader.ensures.opened c.in-Err.ensures.goes_on.0)

pub invariant_of-result : goal.invariant_of-result
invariant_of-result c =
    let o = c.in_ok-reader.ensures.opened in
    let f = accepted_is c.type_inv.file (whole_read nothing o c.in-Ok.ensures.goes_on c.in_ok-finish.ensures) in
    let n = c.in-Ok.ensures.noted in
    (record { term = _; file = f.1; nodes = noted_places o f.1 c.in-Ok.ensures.goes_on.0 n.1 })

pub returns : goal.returns
returns c = (accepted_is c.type_inv.file (whole_read nothing c.in_ok-reader.ensures.opened c.in-Ok.ensures.goes_on c.in_ok-finish.ensures)).0

pub returns-in_err-finish : goal.returns-in_err-finish
returns-in_err-finish c =
    let e = whole_exceeded nothing c.in_ok-reader.ensures.opened c.in-Ok.ensures.goes_on c.in_err-finish.ensures in search rules
