use Rattle.std.proofs.Common.{rules}
use Rattle.table.proofs.Lanes.{only_is}
use Rattle.table.proofs.row.PolicyRow.only_allow.Goals as goal

pub returns : goal.returns
returns c = only_is _ (search rules) (search rules) (search rules)
