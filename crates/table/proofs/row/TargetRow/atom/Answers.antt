-- A pair of the atom's name is taken in, one of another name is passed over.
use Rattle.std.proofs.Common.{rules}
use borrow.Author.Tests.{eq-eqb, ne_eqb}
use Rattle.table.proofs.Pass.{pass_start, pass_over, pass_with, same_of, other_name, other_value, atom_law}
use Rattle.table.proofs.row.TargetRow.atom.Goals as goal
use Rattle.table.proofs.row.TargetRow.atom.Goals.{then-row-atom+then-row-atom-2, then-row-atom+else-row-atom-2, else-row-atom}

pub loop-row-init : goal.loop-row-init
loop-row-init c = (pass_start _ _, pass_start _ _)

pub loop-row-preserved : goal.loop-row-preserved
loop-row-preserved c =
    let v = c.loop-row.invariant in
    let l = c.loop-row-test.true in
    elim c.if-row-atom.branch [
      | then-row-atom+then-row-atom-2 w ↦ rw (w.held-is, w.named-is) (
        pass_with v.0 l (same_of _ _ w.if-row-atom.true w.if-row-atom-2.true) (search rules) w.held-requests.ensures.held w.held-requests.ensures.words,
        pass_with v.1 l (eq-eqb _ _ w.if-row-atom.true) (search rules) w.held-requests.ensures.held w.held-requests.ensures.words,
      )
      | then-row-atom+else-row-atom-2 w ↦ rw (w.held-is, w.named-is) (
        pass_over v.0 l (other_value _ _ w.if-row-atom-2.false),
        pass_with v.1 l (eq-eqb _ _ w.if-row-atom.true) (search rules) w.held-requests.ensures.held w.held-requests.ensures.words,
      )
      | else-row-atom w ↦ rw (w.held-is, w.named-is) (
        pass_over v.0 l (other_name _ _ w.if-row-atom.false),
        pass_over v.1 l (ne_eqb _ _ w.if-row-atom.false),
      )
    ]

pub returns : goal.returns
returns c =
    let v = c.loop-row.invariant in
    atom_law _ _ c.loop-row-test.false c.loop-row.auto.held (search rules) v.0 v.1
