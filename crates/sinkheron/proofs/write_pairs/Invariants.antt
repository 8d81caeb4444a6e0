use mathlib.Core.Path.{◌≡◌}
use Rattle.files.specs.Memory.{over}
use Rattle.sinkheron.proofs.Listed.{numbers}
use Rattle.sinkheron.proofs.write_pairs.Given as goal

abbrev pub invariant-loop-i : goal.invariant-loop-i
invariant-loop-i l = l.space ≡ over (numbers l.pairs l.i) l.fn.space
