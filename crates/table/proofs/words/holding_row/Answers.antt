use mathlib.Core.Path.{◌∙◌}
use native.Mathlib.Omega.{arith}
use lib.ListN.{length-set}
use Rattle.table.proofs.Subsets.{words_more, words_law}
use Rattle.table.proofs.words.holding_row.Goals as goal

pub loop-k-preserved : goal.loop-k-preserved
loop-k-preserved c =
    (length-set c.loop-k.words _ _ ∙ c.loop-k.invariant.0, words_more _ c.loop-k.words (omega (arith, c.loop-k.invariant.0)) c.loop-k.invariant.1 c.holding.ensures)

pub returns : goal.returns
returns c = words_law _ _ (λ n h. c.loop-k.invariant.1 n (omega (arith, h)))
