-- The bytes before the index are written.
use lib.ListN.{take}
use Rattle.text.specs.Written.{Appends}
use Rattle.text.proofs.output.Output.extend.Given as goal

abbrev pub invariant-loop-byte : goal.invariant-loop-byte
invariant-loop-byte l = Appends l.fn.self l.self (take l.byte-index l.bytes)
