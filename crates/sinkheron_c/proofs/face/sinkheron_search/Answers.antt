-- A refusal's place, and each value of a verdict, have room in their bits.
use native.Mathlib.Omega.{arith}
use Rattle.files.proofs.Framing.{lent_bytes}
use Rattle.sinkheron.proofs.Ranges.{search_ranged}
use Rattle.sinkheron_c.proofs.face.sinkheron_search.Goals as goal

pub refused-requires : goal.refused-requires
refused-requires c = (search_ranged (lent_bytes c.type_inv.policy) _ _ c.in-Err.ensures).2

pub counted-requires : goal.counted-requires
counted-requires c =
    omega (arith, (search_ranged (lent_bytes c.type_inv.policy) _ _ (rw c.in-Ok-Resistant.field-0-is at c.in-Ok-Resistant.ensures)).pairs)

pub exposure-requires : goal.exposure-requires
exposure-requires c =
    let v = search_ranged (lent_bytes c.type_inv.policy) _ _ (rw c.in-Ok-Exposed.field-0-is at c.in-Ok-Exposed.ensures) in
    (v.pairs, v.bytes, v.subset, v.hides)
