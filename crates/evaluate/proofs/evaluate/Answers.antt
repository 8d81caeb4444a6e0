-- At each return, what the reader tells of the body is what reading the file gives.
use Rattle.std.proofs.Common.{rules}
use Rattle.ptacl.specs.Meaning.{eval}
use Rattle.ptacl.specs.Values.{code}
use Rattle.files.proofs.Whole.{whole_refused, whole_exceeded, whole_read}
use Rattle.evaluate.proofs.Worth.{map_refused}
use Rattle.evaluate.proofs.evaluate.Goals as goal

pub returns-in-Err : goal.returns-in-Err
returns-in-Err c =
    rw c.error.ensures (map_refused _ (whole_refused (λ p. code (eval p c.args.request.now)) c.in_ok-reader.ensures.opened c.in-Err.ensures.0))

pub returns-in_err-finish : goal.returns-in_err-finish
returns-in_err-finish c =
    let w = map_refused (λ p. code (eval p c.args.request.now)) (whole_exceeded (λ p. code (eval p c.args.request.now)) c.in_ok-reader.ensures.opened c.in-Ok.ensures c.in_err-finish.ensures) in
    search rules

pub returns : goal.returns
returns c = whole_read (λ p. code (eval p c.args.request.now)) c.in_ok-reader.ensures.opened c.in-Ok.ensures c.in_ok-finish.ensures
