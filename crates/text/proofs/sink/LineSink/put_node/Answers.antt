use Rattle.std.proofs.Common.{rules}
use Rattle.text.proofs.Named.{word_behind}
use Rattle.text.proofs.Written.{keeps_twice}
use Rattle.text.proofs.sink.LineSink.put_node.Goals as goal

pub returns : goal.returns
returns c =
    let k = keeps_twice _ _ _ c.extend.ensures.3 c.push.ensures.3 in search (rules, word_behind)
