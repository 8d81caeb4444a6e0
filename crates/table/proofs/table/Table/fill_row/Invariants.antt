use mathlib.Core.Path.{◌≡◌}
use lib.ListN.{length}
use Rattle.table.specs.Rows.{PairRows}
use Rattle.table.proofs.table.Table.fill_row.Given as goal

abbrev pub invariant-loop-i : goal.invariant-loop-i
invariant-loop-i l = (length l.rows.items ≡ l.i) × PairRows l.pairs l.i l.w l.rows.items
