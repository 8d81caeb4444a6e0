-- Spelling out every or leaves none, and changes no decision set, no pair and no verdict, whatever counts as allowed and is compared.
use Prim.Native.Nat.{ℕ}
use mathlib.Core.Path.{◌≡◌, refl, sym, ap, ap₂, ◌∙◌}
use mathlib.Core.Logic.{◌↔◌}
use mathlib.Core.Bool.{true}
use mathlib.Core.List.{List, ◌++◌}
use Rattle.ptacl.specs.Value.{not_v, default_v, and_v, or_v}
use Rattle.ptacl.specs.Values.{under}
use Rattle.ptacl.specs.Request.{Pair, Request}
use Rattle.ptacl.specs.Term.{Sort, target, policy, Term, Policy, atom, deny, allow, targeted, not, default, and, or, atoms}
use Rattle.ptacl.specs.Term.{a_not, a_default, an_and, an_or, without}
use Rattle.ptacl.specs.Meaning.{lift, lift2, eval}
use Rattle.ptacl.specs.Exposure.{Reading, Comparison, ResistantBy, Removal, ExposureBy, First}
use Rattle.ptacl.specs.Spelled.{spelled}
use Rattle.ptacl.proofs.Bools.{and_both}
use Rattle.ptacl.proofs.Finite.{tags_differ}
use Rattle.ptacl.proofs.Rules.{or_means}

-- no or is left
pub spelled_without : (r : Sort) {s : Sort} (t : Term s) → without (an_or r) (spelled t) ≡ true
spelled_without target (atom n v) = refl
spelled_without policy (atom n v) = refl
spelled_without target deny = refl
spelled_without policy deny = refl
spelled_without target allow = refl
spelled_without policy allow = refl
spelled_without target (targeted t p) = and_both (spelled_without target t) (spelled_without target p)
spelled_without policy (targeted t p) = and_both (spelled_without policy t) (spelled_without policy p)
spelled_without r (not {s = s} t) = and_both (tags_differ an_or a_not refl r s) (spelled_without r t)
spelled_without r (default {s = s} t) = and_both (tags_differ an_or a_default refl r s) (spelled_without r t)
spelled_without r (and {s = s} t u) = and_both (tags_differ an_or an_and refl r s) (and_both (spelled_without r t) (spelled_without r u))
spelled_without r (or {s = s} t u) =
    let n = tags_differ an_or a_not refl r s in
    and_both n (and_both (tags_differ an_or an_and refl r s) (and_both (and_both n (spelled_without r t)) (and_both n (spelled_without r u))))

pub spelled_means : {s : Sort} (t : Term s) (q : Request) → eval (spelled t) q ≡ eval t q
spelled_means (atom n v) q = refl
spelled_means deny q = refl
spelled_means allow q = refl
spelled_means (targeted t p) q = ap₂ under (spelled_means t q) (spelled_means p q)
spelled_means (not {s = s} t) q = ap (lift not_v s) (spelled_means t q)
spelled_means (default {s = s} t) q = ap (lift default_v s) (spelled_means t q)
spelled_means (and {s = s} t u) q = ap₂ (lift2 and_v s) (spelled_means t q) (spelled_means u q)
spelled_means (or {s = s} t u) q =
    sym (or_means (spelled t) (spelled u) q) ∙ ap₂ (lift2 or_v s) (spelled_means t q) (spelled_means u q)

pub spelled_atoms : {s : Sort} (t : Term s) → atoms (spelled t) ≡ atoms t
spelled_atoms (atom n v) = refl
spelled_atoms deny = refl
spelled_atoms allow = refl
spelled_atoms (targeted t p) = ap₂ ◌++◌ (spelled_atoms t) (spelled_atoms p)
spelled_atoms (not t) = spelled_atoms t
spelled_atoms (default t) = spelled_atoms t
spelled_atoms (and t u) = ap₂ ◌++◌ (spelled_atoms t) (spelled_atoms u)
spelled_atoms (or t u) = ap₂ ◌++◌ (spelled_atoms t) (spelled_atoms u)

-- policies that come to the same at every request have the same verdict
abbrev Alike : Policy → Policy → Type 0
Alike p r = (q : Request) → eval p q ≡ eval r q

module _ {p r : Policy} (a : Alike p r) where
  alike_resistant : {c : Comparison} {g : Reading} → ResistantBy c g p → ResistantBy c g r
  alike_resistant {g} h = record { stays = λ {q'} {q} w k. ap g (sym (a q)) ∙ h.stays w (ap g (a q') ∙ k) }

  alike_exposure : {g : Reading} {m : Removal} {ps : List Pair} {n i : ℕ} → ExposureBy g m p ps n i → ExposureBy g m r ps n i
  alike_exposure {g} e = record {
    numbered = e.numbered;
    larger = ap g (sym (a _)) ∙ e.larger;
    taken = e.taken;
    smaller = ap g (sym (a _)) ∙ e.smaller;
  }

alike_first : {p r : Policy} → Alike p r → {g : Reading} {m : Removal} {ps : List Pair} {n i : ℕ}
    → First (ExposureBy g m p ps) n i → First (ExposureBy g m r ps) n i
alike_first a f = record {
  hit = alike_exposure a f.hit;
  earlier = λ l e. f.earlier l (alike_exposure (λ q. sym (a q)) e);
  before = λ l e. f.before l (alike_exposure (λ q. sym (a q)) e);
}

module _ (p : Policy) where
  back : Alike p (spelled p)
  back q = sym (spelled_means p q)

  pub spelled_resistant : {c : Comparison} {g : Reading} → ResistantBy c g (spelled p) ↔ ResistantBy c g p
  spelled_resistant = (alike_resistant (spelled_means p), alike_resistant back)

  pub spelled_first : {g : Reading} {m : Removal} {ps : List Pair} {n i : ℕ}
      → First (ExposureBy g m (spelled p) ps) n i ↔ First (ExposureBy g m p ps) n i
  spelled_first = (alike_first (spelled_means p), alike_first back)
