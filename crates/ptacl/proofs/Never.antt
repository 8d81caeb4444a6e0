-- The tests `never` pass where it never allows, or never denies, by the definition, and nowhere else.
use mathlib.Core.Path.{◌≡◌, refl}
use mathlib.Core.Logic.{⊎_elim}
use mathlib.Core.Bool.{true}
use Rattle.ptacl.specs.Term.{Policy, deny, allow, targeted, not, default, and, or}
use Rattle.ptacl.specs.Rules.{Effect, allows, denies, never}
use Rattle.ptacl.specs.Rules.{Never, na_deny, na_targeted, na_default, na_left, na_right, na_not, na_or, nd_allow, nd_targeted, nd_and, nd_not, nd_left, nd_right}
use Rattle.ptacl.proofs.Bools.{clash, and_left, and_right, and_both, or_left, or_right, or_split}

pub never_holds : (p : Policy) (e : Effect) → never p e ≡ true → Never e p
never_holds deny allows h = na_deny
never_holds deny denies h = clash h refl
never_holds allow allows h = clash h refl
never_holds allow denies h = nd_allow
never_holds (targeted t p) allows h = na_targeted (never_holds p allows h)
never_holds (targeted t p) denies h = nd_targeted (never_holds p denies h)
never_holds (not p) allows h = na_not (never_holds p denies h)
never_holds (not p) denies h = nd_not (never_holds p allows h)
never_holds (default p) allows h = na_default (never_holds p allows h)
never_holds (default p) denies h = clash h refl
never_holds (and p r) allows h =
    ⊎_elim (λ k. na_left (never_holds p allows k)) (λ k. na_right (never_holds r allows k)) (or_split (never p allows) h)
never_holds (and p r) denies h = nd_and (never_holds p denies (and_left _ h)) (never_holds r denies (and_right (never p denies) h))
never_holds (or p r) allows h = na_or (never_holds p allows (and_left _ h)) (never_holds r allows (and_right (never p allows) h))
never_holds (or p r) denies h =
    ⊎_elim (λ k. nd_left (never_holds p denies k)) (λ k. nd_right (never_holds r denies k)) (or_split (never p denies) h)

pub never_passes : {e : Effect} {p : Policy} → Never e p → never p e ≡ true
never_passes na_deny = refl
never_passes (na_targeted h) = never_passes h
never_passes (na_default h) = never_passes h
never_passes (na_left h) = or_left _ (never_passes h)
never_passes (na_right {p = p} h) = or_right (never p allows) (never_passes h)
never_passes (na_not h) = never_passes h
never_passes (na_or h k) = and_both (never_passes h) (never_passes k)
never_passes nd_allow = refl
never_passes (nd_targeted h) = never_passes h
never_passes (nd_and h k) = and_both (never_passes h) (never_passes k)
never_passes (nd_not h) = never_passes h
never_passes (nd_left h) = or_left _ (never_passes h)
never_passes (nd_right {p = p} h) = or_right (never p denies) (never_passes h)
