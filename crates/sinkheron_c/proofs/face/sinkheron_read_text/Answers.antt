-- What was written has room in its bits.
use native.Mathlib.Omega.{arith}
use Rattle.sinkheron.proofs.Ranges.{read_text_ranged, output_small}
use Rattle.sinkheron_c.proofs.face.sinkheron_read_text.Goals as goal

pub output-requires : goal.output-requires
output-requires c = output_small 4593 (omega arith) _ (read_text_ranged _ _ c.read_text.ensures)
