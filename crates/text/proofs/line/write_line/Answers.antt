-- At each return, what the reader tells of the body is what reading the file gives.
use Rattle.std.proofs.Common.{rules, refl}
use Rattle.files.proofs.Framing.{lent_bytes}
use Rattle.files.proofs.Whole.{whole_refused, whole_exceeded, whole_read}
use Rattle.text.specs.Line.{line_feed, words}
use Rattle.text.specs.Converting.{behind}
use Rattle.text.specs.Written.{written}
use Rattle.text.proofs.Lines.{line_held}
use Rattle.text.proofs.line.write_line.Goals as goal

pub returns-in_err-convert-clause-err : goal.returns-in_err-convert-clause-err
returns-in_err-convert-clause-err c =
    let e = whole_refused (behind words line_feed (written c.new-output.result)) c.in_ok-reader.ensures.opened c.in_err-convert.ensures.gives in search rules

pub returns-in_err-finish-clause-err : goal.returns-in_err-finish-clause-err
returns-in_err-finish-clause-err c =
    let e = whole_exceeded (behind words line_feed (written c.new-output.result)) c.in_ok-reader.ensures.opened
    (c.in_ok-convert.ensures.gives, c.in_ok-convert.ensures.same_bytes) c.in_err-finish.ensures in search rules

pub returns-clause-ok : goal.returns-clause-ok
returns-clause-ok c =
    let r = whole_read (behind words line_feed (written c.new-output.result)) c.in_ok-reader.ensures.opened
    (c.in_ok-convert.ensures.gives, c.in_ok-convert.ensures.same_bytes) c.in_ok-finish.ensures in
    let o = c.convert.new.output in
    rw c.len.ensures
    (line_held o.space.now o.len o.inside (written c.new-output.result) (rw c.new-output.ensures.empty refl) _ (lent_bytes c.type_inv.file) (search rules) r)
