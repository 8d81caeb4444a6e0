use mathlib.Core.List.{append_assoc}
use Rattle.std.proofs.Common.{arith}
use Rattle.text.proofs.Written.{keeps_twice}
use Rattle.text.proofs.sink.LineSink.put_pair.Goals as goal

pub returns : goal.returns
returns c =
    let k = keeps_twice _ _ _ c.put_number.ensures.3 c.put_number-2.ensures.3 in grind (arith, append_assoc)
