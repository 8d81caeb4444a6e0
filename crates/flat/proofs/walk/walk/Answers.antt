-- A step at each node, from the last to the first.
use mathlib.Core.Path.{ap, ◌∙◌}
use native.Mathlib.Omega.{arith}
use lib.ListN.{length, get_or}
use Rattle.flat.proofs.Come.{walk_start, walk_node, walk_before, walk_on, walk_end}
use Rattle.flat.proofs.walk.walk.Goals as goal

pub loop-at-init : goal.loop-at-init
loop-at-init c =
    walk_start c.requires (ap (λ s. s.iter.rest.now) c.into_iter-at-iterator.ensures.into_iter_gives ∙ ap (λ s. s.rest.now) c.rev-at-items.ensures.source ∙ c.iter.ensures.rest)
    c.new-stack.ensures

pub step-requires : goal.step-requires
step-requires c =
    let e = c.in-Some.ensures.steps in
    rw c.from.ensures (record { node = walk_node c.requires _ _ c.loop-at.invariant e; before = walk_before c.requires _ _ c.loop-at.invariant e })

pub loop-at-preserved : goal.loop-at-preserved
loop-at-preserved c = walk_on c.requires _ _ c.loop-at.invariant c.in-Some.ensures.steps (rw c.from.ensures at c.step.ensures)

pub first-requires : goal.first-requires
first-requires c = omega (arith, ap length (walk_end c.requires c.requires.file c.loop-at.invariant c.in-None.ensures.steps.0))

pub returns : goal.returns
returns c = λ p f. c.first.ensures ∙ ap (λ xs. get_or xs 0 0) (walk_end c.requires f c.loop-at.invariant c.in-None.ensures.steps.0)
