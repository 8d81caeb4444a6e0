-- A set never comes out empty; what never allows or never denies does not; and whatever a rule certifies is resistant.
use Prim.Native.Nat.{ℕ}
use mathlib.Core.Path.{◌≡◌, refl, sym, ap, ap₂, ◌∙◌}
use mathlib.Core.Bool.{true, false, not as no, ◌&&◌, and-false}
use lib.Dec.{eqb}
use borrow.Author.Tests.{not-true}
use Rattle.ptacl.specs.Value.{v1, v0, same, not_v, default_v, and_v, or_v}
use Rattle.ptacl.specs.Values.{member, is_empty, only}
use Rattle.ptacl.specs.Request.{Request, holds, has, Within}
use Rattle.ptacl.specs.Term.{Sort, target, policy, Term, Target, Policy, atom, deny, allow, targeted, not, default, and, or}
use Rattle.ptacl.specs.Term.{Node, a_targeted, a_not, a_default, an_and, an_or, tag_of, without}
use Rattle.ptacl.specs.Meaning.{lift, lift2, atom_at, eval}
use Rattle.ptacl.specs.Exposure.{Resistant}
use Rattle.ptacl.specs.Rules.{Effect, allows, denies, plain, Certified, cert1, cert2, cert3, cert4, cert5, cert6, cert7}
use Rattle.ptacl.specs.Rules.{Never, na_deny, na_targeted, na_default, na_left, na_right, na_not, na_or, nd_allow, nd_targeted, nd_and, nd_not, nd_left, nd_right}
use Rattle.ptacl.proofs.Bools.{either, clash, not_false, and_left, and_right, and_up, or_up, via, eqb_same}
use Rattle.ptacl.proofs.Sets.{or_is, decision, other, is, filled, is_not, is1_default, is1_and, is0_and, only_member, only_under}
use Rattle.ptacl.proofs.Sets.{member_not, allow_default, allow_and, deny_and, allow_or, deny_or, member_under, empty_not, empty_default, empty_and, empty_or, empty_under}

-- or is not(and(not, not)), for both sorts
pub or_means : {s : Sort} (t u : Term s) (q : Request) → eval (or t u) q ≡ eval (not (and (not t) (not u))) q
or_means {s} t u q = or_is s (eval t q) (eval u q)

pub nonempty : (p : Policy) (q : Request) → is_empty (eval p q) ≡ false
unfolding is_empty
nonempty deny q = refl
nonempty allow q = refl
nonempty (targeted t p) q = empty_under _ _ ∙ rw (nonempty p q) (and-false (same (eval t q) v1))
nonempty (not p) q = empty_not _ ∙ nonempty p q
nonempty (default p) q = empty_default _ ∙ nonempty p q
nonempty (and p r) q = empty_and _ _ ∙ rw (nonempty p q, nonempty r q)
nonempty (or p r) q = empty_or _ _ ∙ rw (nonempty p q, nonempty r q)

pub never_means : {e : Effect} {p : Policy} → Never e p → (q : Request) → member (eval p q) (decision e) ≡ false
never_means na_deny q = refl
never_means (na_targeted {t = t} h) q = member_under allows _ _ ∙ rw (never_means h q) (and-false (no (same (eval t q) v0)))
never_means (na_default h) q = allow_default _ ∙ never_means h q
never_means (na_left h) q = allow_and _ _ ∙ rw (never_means h q)
never_means (na_right {p = p} h) q = allow_and _ _ ∙ rw (never_means h q) (and-false (member (eval p q) v1))
never_means (na_not h) q = member_not v1 _ ∙ never_means h q
never_means (na_or h k) q = allow_or _ _ ∙ rw (never_means h q, never_means k q)
never_means nd_allow q = refl
never_means (nd_targeted {t = t} h) q = member_under denies _ _ ∙ rw (never_means h q) (and-false (no (same (eval t q) v0)))
never_means (nd_and h k) q = deny_and _ _ ∙ rw (never_means h q, never_means k q)
never_means (nd_not h) q = member_not v0 _ ∙ never_means h q
never_means (nd_left h) q = deny_or _ _ ∙ rw (never_means h q)
never_means (nd_right {p = p} h) q = deny_or _ _ ∙ rw (never_means h q) (and-false (member (eval p q) v0))

-- an atom is 1 exactly if the request holds its pair
atom_1 : (q : Request) (n v : ℕ) → same (atom_at q n v) v1 ≡ holds q (n, v)
atom_1 q n v = either (holds q (n, v)) (λ h. rw h) (λ h. rw h (either (has q n) (λ k. rw k) (λ k. rw k)))

pub or_plain : (t u : Target) → plain (or t u) ≡ (plain t && plain u)
or_plain t u = refl

-- what no node of a term is, none of its parts is
module _ {r : Sort} (k : Node r) where
  in_default : {s : Sort} (t : Term s) → without k (default t) ≡ true → without k t ≡ true
  in_default {s} t h = and_right (no (eqb (tag_of k) (tag_of (a_default s)))) h

  in_two : {s o : Sort} (n : Node s) (t : Term o) (u : Term s) → (no (eqb (tag_of k) (tag_of n)) && (without k t && without k u)) ≡ true
      → (without k t ≡ true) × (without k u ≡ true)
  in_two n t u h = let b = and_right (no (eqb (tag_of k) (tag_of n))) h in (and_left _ b, and_right (without k t) b)

module _ (q' q : Request) where
  -- a term that is the decision at q' is so at q
  abbrev Kept : Effect → {s : Sort} → Term s → Type 0
  Kept e {s} t = is e s (eval t q') ≡ true → is e s (eval t q) ≡ true

  has_value : {s : Sort} (t : Term s) → filled s (eval t q) ≡ true
  has_value {s = target} t = refl
  has_value {s = policy} p = not_false (nonempty p q)

  kept_not : (e : Effect) {s : Sort} (t : Term s) → Kept (other e) t → Kept e (not t)
  kept_not e {s} t h = via (is_not e s _) (is_not e s _) h

  kept_and : (e : Effect) {s : Sort} (t u : Term s) → Kept e t → Kept e u → Kept e (and t u)
  kept_and allows {s} t u h k = via (is1_and s _ _) (is1_and s _ _) (and_up _ _ h k)
  kept_and denies {s} t u h k =
      via (is0_and s _ _) (is0_and s _ _) (or_up _ _ (and_up _ _ h (λ a. has_value u)) (and_up _ _ k (λ a. has_value t)))

  kept_or : (e : Effect) {s : Sort} (t u : Term s) → Kept e t → Kept e u → Kept e (or t u)
  kept_or e {s} t u h k = via (ap (is e s) (or_means t u q')) (ap (is e s) (or_means t u q)) (spelled e h k)
    where
      spelled : (e : Effect) → Kept e t → Kept e u → Kept e (not (and (not t) (not u)))
      spelled allows h k = kept_not allows (and (not t) (not u)) (kept_and denies (not t) (not u) (kept_not denies t h) (kept_not denies u k))
      spelled denies h k = kept_not denies (and (not t) (not u)) (kept_and allows (not t) (not u) (kept_not allows t h) (kept_not allows u k))

module _ {q' q : Request} (w : Within q' q) where
  -- with plain targets, a term without a not of its own sort that is 1 stays 1
  stays_1 : {s : Sort} (t : Term s) → plain t ≡ true → without (a_not s) t ≡ true → Kept q' q allows t
  stays_1 (atom n v) a b = via (atom_1 q' n v) (atom_1 q n v) (w.up (n, v))
  stays_1 deny a b = λ h. h
  stays_1 allow a b = λ h. h
  stays_1 (targeted t p) a b =
      let c = in_two (a_not target) a_targeted t p a in
      via (only_under allows _ _) (only_under allows _ _)
      (and_up _ _ (stays_1 t c.0 c.0) (stays_1 p c.1 (in_two (a_not policy) a_targeted t p b).1))
  stays_1 (not {s = s} t) a b = clash (eqb_same (tag_of (a_not s))) (not-true _ (and_left _ b))
  stays_1 (default {s = s} t) a b =
      via (is1_default s _) (is1_default s _) (stays_1 t (in_default (a_not target) t a) (in_default (a_not s) t b))
  stays_1 (and {s = s} t u) a b =
      let c = in_two (a_not target) (an_and s) t u a in let d = in_two (a_not s) (an_and s) t u b in
      kept_and q' q allows t u (stays_1 t c.0 d.0) (stays_1 u c.1 d.1)
  stays_1 (or {s = s} t u) a b =
      let c = in_two (a_not target) (an_or s) t u a in let d = in_two (a_not s) (an_or s) t u b in
      kept_or q' q allows t u (stays_1 t c.0 d.0) (stays_1 u c.1 d.1)

  pub plain_up : (t : Target) → plain t ≡ true → same (eval t q') v1 ≡ true → same (eval t q) v1 ≡ true
  plain_up t a = stays_1 t a a

  -- with plain targets and no deny-by-default, {1} stays and {0} stays
  stays_only : (e : Effect) (p : Policy) → plain p ≡ true → without (a_default policy) p ≡ true → Kept q' q e p
  stays_only e deny a b = λ h. h
  stays_only e allow a b = λ h. h
  stays_only e (targeted t p) a b =
      let c = in_two (a_not target) a_targeted t p a in let d = in_two (a_default policy) a_targeted t p b in
      via (only_under e _ _) (only_under e _ _) (and_up _ _ (plain_up t c.0) (stays_only e p c.1 d.1))
  stays_only e (not p) a b = kept_not q' q e p (stays_only (other e) p a b)
  stays_only e (default p) a b = clash b refl
  stays_only e (and p r) a b =
      let c = in_two (a_not target) (an_and policy) p r a in let d = in_two (a_default policy) (an_and policy) p r b in
      kept_and q' q e p r (stays_only e p c.0 d.0) (stays_only e r c.1 d.1)
  stays_only e (or p r) a b =
      let c = in_two (a_not target) (an_or policy) p r a in let d = in_two (a_default policy) (an_or policy) p r b in
      kept_or q' q e p r (stays_only e p c.0 d.0) (stays_only e r c.1 d.1)

-- without a targeted node, the request plays no part
untargeted_same : (p : Policy) → without a_targeted p ≡ true → (q' q : Request) → eval p q' ≡ eval p q
untargeted_same deny h q' q = refl
untargeted_same allow h q' q = refl
untargeted_same (targeted t p) h q' q = clash h refl
untargeted_same (not p) h q' q = ap (lift not_v policy) (untargeted_same p h q' q)
untargeted_same (default p) h q' q = ap (lift default_v policy) (untargeted_same p h q' q)
untargeted_same (and p r) h q' q =
    let c = in_two a_targeted (an_and policy) p r h in
    ap₂ (lift2 and_v policy) (untargeted_same p c.0 q' q) (untargeted_same r c.1 q' q)
untargeted_same (or p r) h q' q =
    let c = in_two a_targeted (an_or policy) p r h in
    ap₂ (lift2 or_v policy) (untargeted_same p c.0 q' q) (untargeted_same r c.1 q' q)

pub certified_resistant : {k : ℕ} {p : Policy} → Certified k p → Resistant p
certified_resistant (cert1 h) = record { stays = λ {q'} {q} w k. clash (only_member v1 _ k) (never_means h q') }
certified_resistant (cert2 {p = p} h) = record { stays = λ {q'} {q} w k. ap (only v1) (sym (untargeted_same p h q' q)) ∙ k }
certified_resistant (cert3 {p = p} h) = record { stays = λ w. stays_only w allows p (and_left _ h) (and_right (plain p) h) }
certified_resistant (cert4 {p = p} h) = record { stays = λ w. stays_1 w p (and_left _ h) (and_right (plain p) h) }
certified_resistant (cert5 h) = record { stays = λ w. via (is1_default policy _) (is1_default policy _) ((certified_resistant h).stays w) }
certified_resistant (cert6 {p = p} {r = r} h k) = record {
  stays = λ {q'} {q} w. kept_and q' q allows p r ((certified_resistant h).stays w) ((certified_resistant k).stays w);
}
certified_resistant (cert7 {p = p} {r = r} h k) = record {
  stays = λ {q'} {q} w. kept_or q' q allows p r ((certified_resistant h).stays w) ((certified_resistant k).stays w);
}
