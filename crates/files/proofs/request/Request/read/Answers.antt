-- By the frame, and by the first pair at fault.
use Rattle.std.proofs.Common.{ap, sym, ◌∙◌, arith}
use Rattle.files.specs.Refusal.{accepted}
use Rattle.files.proofs.Framing.{request_framed}
use Rattle.files.proofs.RequestFile.{in_order_read}
use Rattle.files.proofs.request.Request.read.Goals as goal

pub returns-in_err-body : goal.returns-in_err-body
returns-in_err-body c = request_framed (λ r. r) _ _ _ c.from_residual.ensures (c.in_err-body.ensures.refused 21)

pub returns-in-Ok : goal.returns-in-Ok
returns-in-Ok c = in_order_read c.in_ok-body.ensures.whole (omega arith) (omega arith) ∙ c.in-Ok.ensures.1 26 _ 3 ∙ ap accepted (sym c.in-Ok.ensures.0)

pub returns-in-Err : goal.returns-in-Err
returns-in-Err c = in_order_read c.in_ok-body.ensures.whole (omega arith) (omega arith) ∙ c.in-Err.ensures.1 26 _ 3
