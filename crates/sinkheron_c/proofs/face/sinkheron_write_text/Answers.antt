-- What was written has room in its bits.
use native.Mathlib.Omega.{arith}
use Rattle.files.proofs.Framing.{lent_bytes}
use Rattle.sinkheron.proofs.Ranges.{write_text_ranged, output_small}
use Rattle.sinkheron_c.proofs.face.sinkheron_write_text.Goals as goal

pub output-requires : goal.output-requires
output-requires c = output_small 4590 (omega arith) _ (write_text_ranged (lent_bytes c.type_inv.policy) _ _ c.write_text.ensures)
