use Rattle.files.proofs.RequestFile.{ascends, told_risen, told_fallen}
use Rattle.files.proofs.request.Request.in_bytes.Goals as goal

pub invariant_of-result : goal.invariant_of-result
invariant_of-result c = ascends _ _ c.as_chunks.ensures.front c.in-None.ensures c.type_inv.bytes

pub returns-in-Some : goal.returns-in-Some
returns-in-Some c = told_fallen _ _ c.as_chunks.ensures.front c.in-Some.ensures

pub returns-in-None : goal.returns-in-None
returns-in-None c = told_risen _ _ c.as_chunks.ensures.front c.in-None.ensures
