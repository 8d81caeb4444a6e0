use Rattle.files.specs.Views.{RisesTo}
use Rattle.files.proofs.request.first_fault.Given as goal

abbrev pub invariant-loop-i : goal.invariant-loop-i
invariant-loop-i l = RisesTo l.pairs l.i
