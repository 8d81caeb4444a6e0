use Rattle.table.proofs.Laws.{judged}
use Rattle.table.proofs.judge.judge.Goals as goal

pub returns : goal.returns
returns c = judged _ c.reader-reader.ensures c.in-Ok.ensures.0 c.only_allow.ensures
