-- The pairs go one behind another, by the laws of proofs/WriteLoop.antt.
use Rattle.files.proofs.WriteLoop.{writing_start, writing_more, writing_end}
use Rattle.files.proofs.write.write_request.Goals as goal

pub loop-pair-init : goal.loop-pair-init
loop-pair-init c = writing_start _ _ _ c.requires.few c.requires.room (rw c.to_be_bytes.ensures at c.put.ensures.written)

pub loop-pair-preserved : goal.loop-pair-preserved
loop-pair-preserved c = writing_more c.loop-pair.invariant _ c.loop-pair-test.true c.from.ensures c.put-in-loop-pair.ensures.written

pub returns-clause-written : goal.returns-clause-written
returns-clause-written c = (writing_end c.loop-pair.invariant c.loop-pair-test.false).1
