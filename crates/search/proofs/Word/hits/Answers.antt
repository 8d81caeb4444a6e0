use Rattle.std.proofs.Common.{rules}
use Rattle.search.proofs.Hits.{hits_law}
use Rattle.search.proofs.Word.hits.Goals as goal

pub returns : goal.returns
returns c = hits_law _ _ _ c.holding.ensures c.less.ensures c.word.ensures (search rules)
