-- A refusal's place, and the number of pairs, have room in their bits.
use Rattle.files.proofs.Framing.{lent_bytes}
use Rattle.sinkheron.proofs.Ranges.{list_pairs_ranged}
use Rattle.sinkheron_c.proofs.face.sinkheron_list_pairs.Goals as goal

pub refused-requires : goal.refused-requires
refused-requires c = (list_pairs_ranged (lent_bytes c.type_inv.policy) _ _ c.in-Err.ensures).2

pub counted-requires : goal.counted-requires
counted-requires c = list_pairs_ranged (lent_bytes c.type_inv.policy) _ _ c.in-Ok.ensures
