-- What was written has room in its bits.
use native.Mathlib.Omega.{arith}
use Rattle.files.proofs.Framing.{lent_bytes}
use Rattle.sinkheron.proofs.Ranges.{normal_form_ranged, output_small}
use Rattle.sinkheron_c.proofs.face.sinkheron_normal_form.Goals as goal

pub output-requires : goal.output-requires
output-requires c = output_small 1019 (omega arith) _ (normal_form_ranged (lent_bytes c.type_inv.policy) _ _ c.normal_form.ensures)
