use Rattle.std.proofs.Common.{sym, ◌∙◌}
use Rattle.pairs.proofs.Placed.{above_last}
use Rattle.pairs.proofs.is_last.Goals as goal

pub returns-in-Some : goal.returns-in-Some
returns-in-Some c = λ t. above_last _ _ c.requires c.in-Some.ensures.value (sym c.is_below.ensures ∙ t)
