use Rattle.files.proofs.WriteLoop.{Writing}
use Rattle.files.proofs.write.write_request.Given as goal

abbrev pub invariant-loop-pair : goal.invariant-loop-pair
invariant-loop-pair l = Writing l.pairs l.fn.space l.space l.pair-index l.end
