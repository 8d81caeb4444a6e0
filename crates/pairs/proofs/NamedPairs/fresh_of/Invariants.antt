use Rattle.files.specs.Tags.{pair_of}
use Rattle.pairs.proofs.Fresh.{Tried}
use Rattle.pairs.proofs.NamedPairs.fresh_of.Given as goal

abbrev pub invariant-loop-pair : goal.invariant-loop-pair
invariant-loop-pair l = Tried l.self.pairs.now l.name l.pair-index (pair_of l.fresh)
