use Rattle.ptacl.specs.Term.{atoms}
use Rattle.files.specs.AtomsIn.{atoms_in}
use Rattle.pairs.proofs.Gather.{Gathered}
use Rattle.pairs.proofs.named_of.Given as goal

abbrev pub invariant-loop-pair : goal.invariant-loop-pair
invariant-loop-pair l =
    (goal.iterator-loop-pair).can_next l.pair-iterator
    × (goal.iterator-loop-pair).is_finite l.pair-iterator
    × Gathered 127 (atoms l.policy) (atoms_in l.pair-iterator.rest.now) l.pairs.items
