-- The table that is lent has a bit for each subset.
use Rattle.std.proofs.Common.{refl, length, arith}
use lib.Pow.{pow_mono}
use Rattle.search.proofs.Subsets.find.Goals as goal

pub find_in-requires : goal.find_in-requires
find_in-requires c = record { all = pow_mono {i = length c.args.self.now.pairs.now} {j = 12} (omega arith); whole = refl }
