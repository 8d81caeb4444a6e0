use mathlib.Core.Path.{◌≡◌, ◌∙◌}
use native.Mathlib.Omega.{arith}
use lib.ListN.{length}
use Rattle.std.proofs.Common.{rules}
use Rattle.table.proofs.Subsets.{pairs_more, requests_law}
use Rattle.table.proofs.Filled.{filled_more}
use Rattle.table.proofs.table.Table.fill_row.Goals as goal

pub returns-clause-filled : goal.returns-clause-filled
returns-clause-filled c =
    let v = c.loop-i.invariant in
    let all : c.loop-i.i ≡ length c.args.pairs.now = omega arith in
    let same : c.deref.result.now ≡ c.loop-i.rows.items = search rules in
    filled_more c.judge.result (search rules) c.requires.row.1 (rw same (requests_law (v.0 ∙ all) (rw all at v.1))) c.judge.ensures c.requires.filled
