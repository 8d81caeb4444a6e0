-- `step` keeps the invariant: what it asks and leaves is told by the node's tag.
use mathlib.Core.Path.{ap, ◌∙◌}
use Rattle.files.specs.Tags.{byte_of}
use Rattle.flat.proofs.Come.{by_tag, aimed}
use Rattle.flat.proofs.walk.step.Goals as goal

pub take-requires : goal.take-requires
take-requires c =
    let w = by_tag c.requires.node c.requires.before c.tag_at.result c.tag_at.ensures in
    record { inside = w.inside; below = w.below; room = w.room; aimed = λ e. aimed c.requires.node c.requires.before (c.tag_at.ensures ∙ ap byte_of e) }

pub returns : goal.returns
returns c = rw c.take.ensures (by_tag c.requires.node c.requires.before c.tag_at.result c.tag_at.ensures).after
