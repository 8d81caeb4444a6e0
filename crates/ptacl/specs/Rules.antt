-- The structural rules: the two judgements and the certificates as derivations, and the certificate's
-- number.
use Rattle.std.specs.Prelude.{ℕ, zero, suc, ◌≤◌, ◌≡◌, Bool, true, false, ◌&&◌, ◌||◌, cond}
use Rattle.ptacl.specs.Term.{Sort, target, policy, Term, Target, Policy, deny, allow, targeted, not, default, and, or, a_targeted, a_not, a_default, without}

pub data Effect : Type 0 where
  allows denies : Effect

-- never allows; never denies
pub data Never : Effect → Policy → Type 0 where
  na_deny : Never allows deny
  na_targeted : {t : Target} {p : Policy} → Never allows p → Never allows (targeted t p)
  na_default : {p : Policy} → Never allows p → Never allows (default p)
  na_left : {p r : Policy} → Never allows p → Never allows (and p r)
  na_right : {p r : Policy} → Never allows r → Never allows (and p r)
  na_not : {p : Policy} → Never denies p → Never allows (not p)
  na_or : {p r : Policy} → Never allows p → Never allows r → Never allows (or p r)
  nd_allow : Never denies allow
  nd_targeted : {t : Target} {p : Policy} → Never denies p → Never denies (targeted t p)
  nd_and : {p r : Policy} → Never denies p → Never denies r → Never denies (and p r)
  nd_not : {p : Policy} → Never allows p → Never denies (not p)
  nd_left : {p r : Policy} → Never denies p → Never denies (or p r)
  nd_right : {p r : Policy} → Never denies r → Never denies (or p r)

-- a target is plain if it has no not in it; so are all targets of a policy
abbrev pub plain : {s : Sort} → Term s → Bool
plain t = without (a_not target) t

abbrev pub rule2 : Policy → Bool
rule2 p = without a_targeted p

abbrev pub rule3 : Policy → Bool
rule3 p = plain p && without (a_default policy) p

abbrev pub rule4 : Policy → Bool
rule4 p = plain p && without (a_not policy) p

-- the rule of that number applies
pub data Certified : ℕ → Policy → Type 0 where
  cert1 : {p : Policy} → Never allows p → Certified 1 p
  cert2 : {p : Policy} → rule2 p ≡ true → Certified 2 p
  cert3 : {p : Policy} → rule3 p ≡ true → Certified 3 p
  cert4 : {p : Policy} → rule4 p ≡ true → Certified 4 p
  cert5 : {k : ℕ} {p : Policy} → Certified k p → Certified 5 (default p)
  cert6 : {k l : ℕ} {p r : Policy} → Certified k p → Certified l r → Certified 6 (and p r)
  cert7 : {k l : ℕ} {p r : Policy} → Certified k p → Certified l r → Certified 7 (or p r)

-- the smallest number that applies, or 0
pub data Certificate (p : Policy) : ℕ → Type 0 where
  none : ((k : ℕ) → Certified k p → ⊥) → Certificate p 0
  least : {k : ℕ} → Certified k p → ((j : ℕ) → Certified j p → k ≤ j) → Certificate p k

-- tests that decide these: whether a policy never has the effect, and its certificate's number
abbrev pub never : Policy → Effect → Bool
never deny allows = true
never deny denies = false
never allow allows = false
never allow denies = true
never (targeted t p) e = never p e
never (not p) allows = never p denies
never (not p) denies = never p allows
never (default p) allows = never p allows
never (default p) denies = false
never (and p r) allows = never p allows || never r allows
never (and p r) denies = never p denies && never r denies
never (or p r) allows = never p allows && never r allows
never (or p r) denies = never p denies || never r denies

-- the number of the first of rules 1 to 4 that applies, else k
abbrev pub base : Policy → ℕ → ℕ
base p k = cond (never p allows) 1 (cond (rule2 p) 2 (cond (rule3 p) 3 (cond (rule4 p) 4 k)))

-- k, given a certificate of the body
abbrev pub given : ℕ → ℕ → ℕ
given zero k = 0
given (suc n) k = k

abbrev pub certificate : Policy → ℕ
certificate deny = base deny 0
certificate allow = base allow 0
certificate (targeted t p) = base (targeted t p) 0
certificate (not p) = base (not p) 0
certificate (default p) = base (default p) (given (certificate p) 5)
certificate (and p r) = base (and p r) (given (certificate p) (given (certificate r) 6))
certificate (or p r) = base (or p r) (given (certificate p) (given (certificate r) 7))
