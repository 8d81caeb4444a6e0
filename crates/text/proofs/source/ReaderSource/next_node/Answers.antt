-- A node of a file takes one byte.
use mathlib.Core.Path.{refl}
use Rattle.text.proofs.Bytes.{node_met}
use Rattle.text.proofs.source.ReaderSource.next_node.Goals as goal

pub returns-in-Ok-clause-gives : goal.returns-in-Ok-clause-gives
returns-in-Ok-clause-gives c = rw c.in-Ok.ensures.ok.0 (node_met _ _ _ _ _ c.in-Ok.ensures.gives).0

pub returns-in-Ok-clause-limits : goal.returns-in-Ok-clause-limits
returns-in-Ok-clause-limits c = (c.in-Ok.ensures.ok.1, (node_met _ _ _ _ _ c.in-Ok.ensures.gives).1, rw c.in-Ok.ensures.ok.0 refl)
