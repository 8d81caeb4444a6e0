-- Laws of values and of sets of values, each by one test of all of them.
use mathlib.Core.Path.{◌≡◌, refl}
use mathlib.Core.Bool.{Bool, true, not, ◌&&◌, ◌||◌}
use Rattle.ptacl.specs.Value.{Value, v1, v0, v_u, same, not_v, default_v, and_v, or_v}
use Rattle.ptacl.specs.Values.{Values, member, each, each2, under, is_empty, only}
use Rattle.ptacl.specs.Term.{Sort, target, policy}
use Rattle.ptacl.specs.Meaning.{Meaning, lift, lift2}
use Rattle.ptacl.specs.Rules.{Effect, allows, denies}
use Rattle.ptacl.proofs.Bools.{and_left}
use Rattle.ptacl.proofs.Finite.{values, sets, by, by2}

-- or is not(and(not, not)), on values and on sets
pub or_is : (s : Sort) (x y : Meaning s) → lift2 or_v s x y ≡ lift not_v s (lift2 and_v s (lift not_v s x) (lift not_v s y))
unfolding lift lift2
or_is target v1 y = refl
or_is target v0 v1 = refl
or_is target v0 v0 = refl
or_is target v0 v_u = refl
or_is target v_u v1 = refl
or_is target v_u v0 = refl
or_is target v_u v_u = refl
or_is policy x y = λ i. record { has1 = at v1 x y i; has0 = at v0 x y i; has_u = at v_u x y i }
  where
    at : (v : Value) (x y : Values) → member (each2 or_v x y) v ≡ member (each not_v (each2 and_v (each not_v x) (each not_v y))) v
    at v1 = by2 sets sets _ _ refl
    at v0 = by2 sets sets _ _ refl
    at v_u = by2 sets sets _ _ refl

-- allow and deny as values, and each the other's not
abbrev pub decision : Effect → Value
decision allows = v1
decision denies = v0

abbrev pub other : Effect → Effect
other allows = denies
other denies = allows

-- a target's value is the decision; a policy's set holds it alone
abbrev pub is : Effect → (s : Sort) → Meaning s → Bool
is e target v = same v (decision e)
is e policy s = only (decision e) s

-- a policy's set has a member
abbrev pub filled : (s : Sort) → Meaning s → Bool
filled target v = true
filled policy s = not (is_empty s)

pub is_not : (e : Effect) (s : Sort) (x : Meaning s) → is e s (lift not_v s x) ≡ is (other e) s x
unfolding lift only
is_not allows target = by values _ _ refl
is_not denies target = by values _ _ refl
is_not allows policy = by sets _ _ refl
is_not denies policy = by sets _ _ refl

pub is1_default : (s : Sort) (x : Meaning s) → is allows s (lift default_v s x) ≡ is allows s x
unfolding lift only
is1_default target = by values _ _ refl
is1_default policy = by sets _ _ refl

-- an and is 1 where both sides are, and 0 where either is
pub is1_and : (s : Sort) (x y : Meaning s) → is allows s (lift2 and_v s x y) ≡ (is allows s x && is allows s y)
unfolding lift2 only
is1_and target = by2 values values _ _ refl
is1_and policy = by2 sets sets _ _ refl

pub is0_and : (s : Sort) (x y : Meaning s) → is denies s (lift2 and_v s x y) ≡ (is denies s x && filled s y || is denies s y && filled s x)
unfolding lift2 only is_empty
is0_and target = by2 values values _ _ refl
is0_and policy = by2 sets sets _ _ refl

-- sets of one value
pub only_member : (v : Value) (s : Values) → only v s ≡ true → member s v ≡ true
unfolding only
only_member v s h = and_left _ h

pub only_under : (e : Effect) (v : Value) (s : Values) → only (decision e) (under v s) ≡ (same v v1 && only (decision e) s)
unfolding under only
only_under allows = by2 values sets _ _ refl
only_under denies = by2 values sets _ _ refl

-- members
pub member_not : (v : Value) (s : Values) → member (lift not_v policy s) v ≡ member s (not_v v)
unfolding lift
member_not = by2 values sets _ _ refl

pub allow_default : (s : Values) → member (lift default_v policy s) v1 ≡ member s v1
unfolding lift
allow_default = by sets _ _ refl

pub allow_and : (s r : Values) → member (lift2 and_v policy s r) v1 ≡ (member s v1 && member r v1)
unfolding lift2
allow_and = by2 sets sets _ _ refl

pub deny_and : (s r : Values) → member (lift2 and_v policy s r) v0 ≡ (member s v0 && not (is_empty r) || member r v0 && not (is_empty s))
unfolding lift2 is_empty
deny_and = by2 sets sets _ _ refl

pub allow_or : (s r : Values) → member (lift2 or_v policy s r) v1 ≡ (member s v1 && not (is_empty r) || member r v1 && not (is_empty s))
unfolding lift2 is_empty
allow_or = by2 sets sets _ _ refl

pub deny_or : (s r : Values) → member (lift2 or_v policy s r) v0 ≡ (member s v0 && member r v0)
unfolding lift2
deny_or = by2 sets sets _ _ refl

pub member_under : (e : Effect) (v : Value) (s : Values) → member (under v s) (decision e) ≡ (not (same v v0) && member s (decision e))
unfolding under
member_under allows = by2 values sets _ _ refl
member_under denies = by2 values sets _ _ refl

-- the empty set
pub empty_not : (s : Values) → is_empty (lift not_v policy s) ≡ is_empty s
unfolding lift is_empty
empty_not = by sets _ _ refl

pub empty_default : (s : Values) → is_empty (lift default_v policy s) ≡ is_empty s
unfolding lift is_empty
empty_default = by sets _ _ refl

pub empty_and : (s r : Values) → is_empty (lift2 and_v policy s r) ≡ (is_empty s || is_empty r)
unfolding lift2 is_empty
empty_and = by2 sets sets _ _ refl

pub empty_or : (s r : Values) → is_empty (lift2 or_v policy s r) ≡ (is_empty s || is_empty r)
unfolding lift2 is_empty
empty_or = by2 sets sets _ _ refl

pub empty_under : (v : Value) (s : Values) → is_empty (under v s) ≡ (same v v1 && is_empty s)
unfolding under is_empty
empty_under = by2 values sets _ _ refl
