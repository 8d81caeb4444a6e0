use Rattle.std.proofs.Common.{rules}
use Rattle.table.proofs.Lanes.{optional_is}
use Rattle.table.proofs.row.TargetRow.optional.Goals as goal

pub returns : goal.returns
returns c = optional_is _ (search rules)
