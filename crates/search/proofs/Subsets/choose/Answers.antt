use mathlib.Core.Path.{refl}
use Rattle.search.proofs.Chosen.{chosen_with, chosen_without}
use Rattle.search.proofs.Subsets.choose.Goals as goal
use Rattle.search.proofs.Subsets.choose.Goals.{then-m-i-eq1, else-m-i-eq1}

pub loop-i-preserved : goal.loop-i-preserved
loop-i-preserved c =
    let v = c.loop-i.invariant in
    let l = c.loop-i-test.true in
    elim c.if-m-i-eq1.branch [
      | then-m-i-eq1 w ↦ rw w.chosen-is (chosen_with _ _ v _ l refl w.if-m-i-eq1.true w.push.ensures.items)
      | else-m-i-eq1 w ↦ rw w.chosen-is (chosen_without _ _ v (record { name = 0; value = 0 }) l w.if-m-i-eq1.false)
    ]
