-- For the pair and for its name, what the rows have and what is still to come.
use lib.Dec.{eqb}
use Rattle.ptacl.specs.Request.{same_pair}
use Rattle.files.specs.Tags.{pair_of}
use Rattle.table.proofs.Pass.{Passed}
use Rattle.table.proofs.row.TargetRow.atom.Given as goal

abbrev pub invariant-loop-row : goal.invariant-loop-row
invariant-loop-row l =
    Passed (λ y. same_pair y (pair_of l.atom)) l.rows l.held l.row-index × Passed (λ y. eqb y.0 l.atom.name) l.rows l.named l.row-index
