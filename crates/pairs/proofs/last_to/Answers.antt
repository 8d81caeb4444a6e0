use Rattle.std.proofs.Common.{◌-◌, ◌<◌, ap, subst, ◌∙◌, length, arith}
use Rattle.std.specs.List.{swap}
use Rattle.pairs.proofs.Last.{insert_down}
use Rattle.pairs.proofs.last_to.Goals as goal

pub loop-at-preserved : goal.loop-at-preserved
loop-at-preserved c =
    let v = c.loop-at.invariant in
    let at = c.loop-at.at in (
      omega (arith, c.loop-at-test.true),
      omega (arith, v.1, c.swap.ensures.len),
      λ front last e.
          let here = v.2 front last e in
          c.swap.ensures.after ∙ ap (λ l. swap l (at - 1) at) here
          ∙ insert_down front at last (omega (arith, c.loop-at-test.true)) (subst (λ l. at < length l) here v.1),
    )
