use Rattle.pairs.proofs.Same.{pairs_same}
use Rattle.pairs.proofs.pairs_of.Goals as goal

pub returns-clause-pairs : goal.returns-clause-pairs
returns-clause-pairs c = pairs_same _ _ c.named_of.ensures.named.members (rw c.as_slice.ensures.value at c.with_fresh.ensures.pairs)
