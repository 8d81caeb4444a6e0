-- A targeted policy's set is found by its target's value.
use Rattle.std.proofs.Common.{arith}
use Rattle.evaluate.proofs.Worth.{worth_more, targeted_code}
use Rattle.evaluate.proofs.+value.Goals as goal

pub returns-in_ok-value-in-Targeted : goal.returns-in_ok-value-in-Targeted
returns-in_ok-value-in-Targeted t c =
    let v = targeted_code c.args.request.now _ c.in_ok-target-in-Targeted.ensures.0 c.targeted.ensures in
    rw v (grind (arith, worth_more))
