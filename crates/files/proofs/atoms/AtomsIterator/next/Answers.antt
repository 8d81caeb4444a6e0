-- From the first atom's tag on.
use Rattle.std.proofs.Common.{rules, ap, length}
use Rattle.files.proofs.AtomsIn.{no_atom, atom_met, atom_cut}
use Rattle.files.proofs.atoms.AtomsIterator.next.Goals as goal

pub returns-in_err-at-clause-steps : goal.returns-in_err-at-clause-steps
returns-in_err-at-clause-steps c = let e = no_atom c.args.self.now.rest.now (search rules) in search rules

pub returns-in_err-numbers-clause-steps : goal.returns-in_err-numbers-clause-steps
returns-in_err-numbers-clause-steps c =
    let e = atom_cut c.args.self.now.rest.now c.in_ok-at.at (search rules) (search rules) (search rules) c.in_err-numbers.ensures.cases in
    search rules

pub returns-clause-steps : goal.returns-clause-steps
returns-clause-steps c =
    let n = c.in_ok-numbers.ensures.cases in
    rw c.from.ensures (atom_met c.args.self.now.rest.now c.in_ok-at.at (search rules) (search rules) (search rules) n.0 n.1 n.2)

pub returns-clause-goes : goal.returns-clause-goes
returns-clause-goes c =
    let n = c.in_ok-numbers.ensures.cases in
    let e = atom_met c.args.self.now.rest.now c.in_ok-at.at (search rules) (search rules) (search rules) n.0 n.1 n.2 in
    search (rules, ap length e)
