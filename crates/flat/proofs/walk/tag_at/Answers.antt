-- The byte where a subterm's node stands is a tag.
use Rattle.flat.proofs.Row.{next_inside, next_tag}
use Rattle.flat.proofs.walk.tag_at.Goals as goal

pub bounds-file-at : goal.bounds-file-at
bounds-file-at c = next_inside c.requires

pub unreachable-requires : goal.unreachable-requires
unreachable-requires c = next_tag c.requires c.in_default.ensures
