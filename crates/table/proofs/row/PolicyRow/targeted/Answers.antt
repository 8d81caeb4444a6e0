use Rattle.std.proofs.Common.{rules}
use Rattle.table.proofs.Lanes.{targeted_is}
use Rattle.table.proofs.row.PolicyRow.targeted.Goals as goal

pub returns : goal.returns
returns c = targeted_is _ (search rules) (search rules) (search rules) _ (search rules) (search rules)
