-- A term comes to the same at a request and at its normal form, and normal forms keep inclusion. There is only one.
use Prim.Native.Nat.{ℕ}
use mathlib.Core.Path.{◌≡◌, refl, sym, ap, ap₂, subst, ◌∙◌}
use mathlib.Core.Logic.{⊎_elim}
use mathlib.Core.Bool.{true, false, not as no, ◌&&◌, and-false, or-false}
use mathlib.Core.List.{List, [], ◌∷◌, ◌++◌}
use lib.Dec.{eqb}
use borrow.Author.Tests.{eqb-true, not-true}
use Rattle.ptacl.specs.Value.{not_v, default_v, and_v, or_v}
use Rattle.ptacl.specs.Values.{under}
use Rattle.ptacl.specs.Request.{Pair, Request, same_pair, holds, has, Within}
use Rattle.ptacl.specs.Term.{Sort, Term, atom, deny, allow, targeted, not, default, and, or, atoms}
use Rattle.ptacl.specs.Meaning.{lift, lift2, eval}
use Rattle.ptacl.specs.Pairs.{named, fresh, unnamed, normal, IsNormal}
use Rattle.ptacl.proofs.Bools.{either, clash, iff, not_false, eqb_same}
use Rattle.ptacl.proofs.Bools.{and_left, and_right, and_both, and_up, or_left, or_right, or_up, or_split}
use Rattle.ptacl.proofs.Requests.{holds_head, found, holds_append, holds_has, has_holds, has_up}
use Rattle.ptacl.proofs.Order.{ascending_same}
use Rattle.ptacl.proofs.Fresh.{fresh_value, fresh_exists}

-- two requests agree on a list's pairs and names
record Agree (l : List Pair) (q r : Request) : Type 0 where
  on_pairs : (x : Pair) → holds l x ≡ true → holds q x ≡ holds r x
  on_names : (n : ℕ) → has l n ≡ true → has q n ≡ has r n

agree_within : {l m : List Pair} {q r : Request} → Within l m → Agree m q r → Agree l q r
agree_within w a = record { on_pairs = λ x h. a.on_pairs x (w.up x h); on_names = λ n h. a.on_names n (has_up w n h) }

agree_left : (l m : List Pair) {q r : Request} → Agree (l ++ m) q r → Agree l q r
agree_left l m = agree_within (record { up = λ x h. holds_append l m x ∙ or_left _ h })

agree_right : (l m : List Pair) {q r : Request} → Agree (l ++ m) q r → Agree m q r
agree_right l m = agree_within (record { up = λ x h. holds_append l m x ∙ or_right (holds l x) h })

eval_agree : {q r : Request} {s : Sort} (t : Term s) → Agree (atoms t) q r → eval t q ≡ eval t r
eval_agree (atom n v) a = rw (a.on_pairs (n, v) (holds_head (n, v) []), a.on_names n (or_left false (eqb_same n)))
eval_agree deny a = refl
eval_agree allow a = refl
eval_agree (targeted t p) a =
    ap₂ under (eval_agree t (agree_left (atoms t) (atoms p) a)) (eval_agree p (agree_right (atoms t) (atoms p) a))
eval_agree (not {s = s} t) a = ap (lift not_v s) (eval_agree t a)
eval_agree (default {s = s} t) a = ap (lift default_v s) (eval_agree t a)
eval_agree (and {s = s} t u) a =
    ap₂ (lift2 and_v s) (eval_agree t (agree_left (atoms t) (atoms u) a)) (eval_agree u (agree_right (atoms t) (atoms u) a))
eval_agree (or {s = s} t u) a =
    ap₂ (lift2 or_v s) (eval_agree t (agree_left (atoms t) (atoms u) a)) (eval_agree u (agree_right (atoms t) (atoms u) a))

-- a value that the request holds of a name and that is not named
unnamed_of : (ats : List Pair) (q : Request) (x : Pair) → holds q x ≡ true → named ats x ≡ false → unnamed ats q x.0 ≡ true
unnamed_of ats [] x h k = h
unnamed_of ats (y ∷ q) x h k = found y q x
    (λ e. or_left _ (subst (λ z. (eqb z.0 x.0 && no (named ats z)) ≡ true) (sym e) (and_both (eqb_same x.0) (not_false k))))
    (λ e. or_right (eqb y.0 x.0 && no (named ats y)) (unnamed_of ats q x e k)) h

unnamed_some : (ats : List Pair) (q : Request) (n : ℕ) → unnamed ats q n ≡ true
    → (v : ℕ) × (holds q (n, v) ≡ true) × (named ats (n, v) ≡ false)
unnamed_some ats [] n h = clash h refl
unnamed_some ats (y ∷ q) n h = ⊎_elim
    (λ e. subst (λ m. (v : ℕ) × (holds (y ∷ q) (m, v) ≡ true) × (named ats (m, v) ≡ false)) (eqb-true _ _ (and_left _ e))
    (y.1, holds_head y q, not-true _ (and_right (eqb y.0 n) e)))
    (λ e. let r = unnamed_some ats q n e in (r.0, or_right (same_pair y (n, r.0)) r.1, r.2))
    (or_split (eqb y.0 n && no (named ats y)) h)

-- what holds the normal form's pairs agrees with the request on the atoms
module _ (ats : List Pair) (q r : Request) (members : (x : Pair) → holds r x ≡ normal ats q x) where
  same_named : (x : Pair) → named ats x ≡ true → holds r x ≡ holds q x
  unfolding normal
  same_named x h = members x ∙ simp (h, and-false, or-false)

  names_there : (n : ℕ) → has ats n ≡ true → has q n ≡ true → has r n ≡ true
  unfolding normal
  names_there n u h = let x = has_holds q n h in let w = fresh_value ats n in either (named ats (n, x.0))
      (λ e. holds_has r (n, x.0) (same_named (n, x.0) e ∙ x.1))
      (λ e. holds_has r (n, w) (members (n, w)
      ∙ or_right (named ats (n, w) && holds q (n, w)) (and_both (fresh_exists ats n u) (unnamed_of ats q (n, x.0) x.1 e))))

  names_back : (n : ℕ) → has r n ≡ true → has q n ≡ true
  unfolding normal
  names_back n h = let x = has_holds r n h in
      ⊎_elim (λ e. holds_has q (n, x.0) (and_right (named ats (n, x.0)) e))
      (λ e. let z = unnamed_some ats q n (and_right (fresh ats (n, x.0)) e) in holds_has q (n, z.0) z.1)
      (or_split (named ats (n, x.0) && holds q (n, x.0)) (sym (members (n, x.0)) ∙ x.1))

pub eval_normal : {s : Sort} (t : Term s) {q r : Request} → IsNormal (atoms t) q r → eval t r ≡ eval t q
eval_normal t {q} {r} h = eval_agree t (record {
  on_pairs = same_named (atoms t) q r h.members;
  on_names = λ n u. iff (names_back (atoms t) q r h.members n) (names_there (atoms t) q r h.members n u);
})

pub normal_up : (ats : List Pair) {q' q : Request} → Within q' q → (x : Pair) → normal ats q' x ≡ true → normal ats q x ≡ true
unfolding normal
normal_up ats {q'} {q} w x =
    or_up (named ats x && holds q' x) (fresh ats x && unnamed ats q' x.0)
    (and_up (named ats x) (holds q' x) (λ h. h) (w.up x))
    (and_up (fresh ats x) (unnamed ats q' x.0) (λ h. h)
    (λ h. let z = unnamed_some ats q' x.0 h in unnamed_of ats q (x.0, z.0) (w.up (x.0, z.0) z.1) z.2))

pub normal_within : {ats : List Pair} {q' q r' r : Request} → Within q' q → IsNormal ats q' r' → IsNormal ats q r → Within r' r
normal_within {ats} w h k = record { up = λ x m. k.members x ∙ normal_up ats w x (sym (h.members x) ∙ m) }

pub normal_unique : {ats : List Pair} {q r s : Request} → IsNormal ats q r → IsNormal ats q s → r ≡ s
normal_unique {r} {s} h k = ascending_same r s h.ordered k.ordered (λ x. h.members x ∙ sym (k.members x))
