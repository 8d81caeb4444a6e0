-- The pairs chosen so far, with those still to choose, are the subset.
use Rattle.search.proofs.Chosen.{Chosen}
use Rattle.search.proofs.Subsets.choose.Given as goal

abbrev pub invariant-loop-i : goal.invariant-loop-i
invariant-loop-i l = Chosen l.self.pairs.now l.m l.chosen.items l.i
