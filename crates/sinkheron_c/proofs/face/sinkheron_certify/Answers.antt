-- A refusal's place has room in its bits.
use Rattle.files.proofs.Framing.{lent_bytes}
use Rattle.sinkheron.proofs.Ranges.{certify_ranged}
use Rattle.sinkheron_c.proofs.face.sinkheron_certify.Goals as goal

pub refused-requires : goal.refused-requires
refused-requires c = (certify_ranged (lent_bytes c.type_inv.policy) _ _ c.in-Err.ensures).2
