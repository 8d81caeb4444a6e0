-- decide and decide_flat: whatever the one and the other may answer for the same two files, by their contracts, is the same.
use mathlib.Core.Path.{◌≡◌}
use contract.Lifetimes.{Lfts}
use borrow.Fn.Kinds.{Dens, ended_of}
use denote.Triple.Clauses.{AtExit}
use Rattle.std.specs.Prelude.{Result}
use Rattle.ptacl.specs.declared.DecisionSet.{DecisionSet}
use Rattle.sinkheron.specs.declared.refusal.Refusal.{Refusal}
use Rattle.sinkheron.proofs.DecideOne.{decision_same}
use Rattle.sinkheron.proofs.decide.Kinds.{ps, r}
use Rattle.sinkheron.proofs.decide.Reads as decide
use Rattle.sinkheron.proofs.decide_flat.Reads as decide-flat

pub flat_same : (κs : Lfts 2) (files : Dens κs ps) (answer flat : Result DecisionSet Refusal) (s t : AtExit (ended_of 2 ps r) κs)
    → decide.Post κs files answer s → decide-flat.Post κs files flat t → answer ≡ flat
flat_same κs files answer flat s t d e = decision_same answer flat d e
