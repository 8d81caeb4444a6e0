-- A step at each node, from the last to the first: the nodes still to come are the iterator's rest.
use Rattle.flat.proofs.Come.{Left}
use Rattle.flat.proofs.walk.walk.Given as goal

abbrev pub invariant-loop-at : goal.invariant-loop-at
invariant-loop-at l = Left l.file l.places l.request l.at-iterator.iter.rest.now l.stack
