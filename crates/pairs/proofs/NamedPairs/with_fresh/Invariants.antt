use Rattle.std.specs.Prelude.{map}
use Rattle.files.specs.Tags.{pair_of}
use Rattle.pairs.proofs.Gather.{Gathered}
use Rattle.pairs.proofs.Fresh.{coming, LastPut}
use Rattle.pairs.proofs.NamedPairs.with_fresh.Given as goal

abbrev pub invariant-loop-pair : goal.invariant-loop-pair
invariant-loop-pair l =
    Gathered 254 (coming l.self.pairs.now 0) (coming l.self.pairs.now l.pair-index) l.pairs.items
    × LastPut l.self.pairs.now l.last (map pair_of l.pairs.items)
