-- Induction over terms by the shape of their nodes: what is proved at each of the four shapes holds at every node.
use Prim.Native.Nat.{ℕ}
use Rattle.ptacl.specs.Term.{Sort, target, policy, Term, atom, deny, allow, targeted, not, default, and, or}
use Rattle.ptacl.specs.Term.{Node, an_atom, a_deny, an_allow, a_targeted, a_not, a_default, an_and, an_or, Shape, numbers, leaf, one, two, shape}

-- what is to be proved at a shape: P of the term that is made, given P of those below
abbrev pub Case : ((s : Sort) → Term s → Type 0) → {s : Sort} → Shape s → Type 0
Case P {s} (numbers f) = (n v : ℕ) → P s (f n v)
Case P {s} (leaf t) = P s t
Case P {s} (one f) = (t : Term s) → P s t → P s (f t)
Case P {s} (two r f) = (t : Term r) (u : Term s) → P r t → P s u → P s (f t u)

pub by_shape : (P : (s : Sort) → Term s → Type 0) → ((s : Sort) (k : Node s) → Case P (shape k)) → {s : Sort} (t : Term s) → P s t
by_shape P f (atom n v) = f target an_atom n v
by_shape P f deny = f policy a_deny
by_shape P f allow = f policy an_allow
by_shape P f (targeted t p) = f policy a_targeted t p (by_shape P f t) (by_shape P f p)
by_shape P f (not {s = s} t) = f s (a_not s) t (by_shape P f t)
by_shape P f (default {s = s} t) = f s (a_default s) t (by_shape P f t)
by_shape P f (and {s = s} t u) = f s (an_and s) t u (by_shape P f t) (by_shape P f u)
by_shape P f (or {s = s} t u) = f s (an_or s) t u (by_shape P f t) (by_shape P f u)
