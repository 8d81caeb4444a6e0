-- At each return, what the words tell of the text's term is what reading the text gives.
use Rattle.std.proofs.Common.{rules, arith}
use Rattle.files.specs.Encoding.{bytes}
use Rattle.text.specs.Converting.{behind}
use Rattle.text.specs.Written.{written}
use Rattle.text.proofs.Lines.{line_refused, line_exceeded, line_read, line_fits, file_held}
use Rattle.text.proofs.line.read_line.Goals as goal

pub returns-in_err-convert-clause-err : goal.returns-in_err-convert-clause-err
returns-in_err-convert-clause-err c =
    let e = line_refused (behind bytes tt (written c.extend.new.self)) c.new-words.ensures c.in_err-convert.ensures.gives in search rules

pub returns-in_err-end-clause-err : goal.returns-in_err-end-clause-err
returns-in_err-end-clause-err c =
    let e = line_exceeded (behind bytes tt (written c.extend.new.self)) c.new-words.ensures c.in_ok-convert.ensures.gives c.convert.ensures.same_bytes
    c.in_err-end.ensures in search rules

pub overflow_sub-len : goal.overflow_sub-len
overflow_sub-len c =
    let o = c.convert.new.output in
    omega (
      arith,
      c.len-len.ensures,
      line_fits c.new-words.ensures (written c.extend.new.self) (search rules) o.len o.space.now o.inside
          c.in_ok-convert.ensures.gives c.convert.ensures.same_bytes c.in_ok-end.ensures,
    )

pub overflow_cast-len : goal.overflow_cast-len
overflow_cast-len c =
    let o = c.convert.new.output in
    omega (
      arith,
      c.len-len.ensures,
      line_fits c.new-words.ensures (written c.extend.new.self) (search rules) o.len o.space.now o.inside
          c.in_ok-convert.ensures.gives c.convert.ensures.same_bytes c.in_ok-end.ensures,
    )

pub returns-clause-ok : goal.returns-clause-ok
returns-clause-ok c =
    let r = line_read (behind bytes tt (written c.extend.new.self)) c.new-words.ensures c.in_ok-convert.ensures.gives c.convert.ensures.same_bytes
    c.in_ok-end.ensures in
    let o = c.convert.new.output in
    rw c.len-len.ensures
    (file_held o.space.now o.len o.inside (written c.extend.new.self) (search rules) _ r _ _ (rw c.to_be_bytes.ensures at c.put.ensures.written) (search rules)
    (search rules) (search rules))
