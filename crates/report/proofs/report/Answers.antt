-- `report` is safe: what `list_pairs` promises keeps the pairs within the 254 numbers lent. The check
-- does not find this alone.
use mathlib.Core.Path.{sym}
use native.Mathlib.Omega.{arith}
use lib.Seq.{length-take-le}
use Rattle.sinkheron.proofs.ListPairsOne.{listed_fits}
use Rattle.report.proofs.report.Goals as goal

pub slice_bounds-pairs-end : goal.slice_bounds-pairs-end
slice_bounds-pairs-end g c = omega (arith, listed_fits c.in-Ok.ensures)

pub slice_bounds-list-end : goal.slice_bounds-list-end
slice_bounds-list-end g c = sym (length-take-le _ _ (omega (arith, listed_fits c.in-Ok.ensures)))
