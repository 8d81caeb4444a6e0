-- What a target and a policy come to.
use Rattle.std.specs.Prelude.{ℕ, cond}
use Rattle.ptacl.specs.Value.{Value, v1, v0, v_u, not_v, default_v, and_v, or_v}
use Rattle.ptacl.specs.Values.{Values, single, each, each2, under}
use Rattle.ptacl.specs.Request.{Request, holds, has}
use Rattle.ptacl.specs.Term.{Sort, target, policy, Term, atom, deny, allow, targeted, not, default, and, or}

-- a target comes to a value, a policy to a set of values
abbrev pub Meaning : Sort → Type 0
Meaning target = Value
Meaning policy = Values

-- an operation on values acts on a target's value, or on every member or pair of members of a policy's set
unfoldable pub lift : (Value → Value) → (s : Sort) → Meaning s → Meaning s
lift f target = f
lift f policy = each f

unfoldable pub lift2 : (Value → Value → Value) → (s : Sort) → Meaning s → Meaning s → Meaning s
lift2 f target = f
lift2 f policy = each2 f

-- an atomic target is 1 if the request holds (n, v); U if it holds no pair named n; else 0
abbrev pub atom_at : Request → ℕ → ℕ → Value
atom_at q n v = cond (holds q (n, v)) v1 (cond (has q n) v0 v_u)

abbrev pub eval : {s : Sort} → Term s → Request → Meaning s
eval (atom n v) q = atom_at q n v
eval deny q = single v0
eval allow q = single v1
eval (targeted t p) q = under (eval t q) (eval p q)
eval (not {s = s} t) q = lift not_v s (eval t q)
eval (default {s = s} t) q = lift default_v s (eval t q)
eval (and {s = s} t u) q = lift2 and_v s (eval t q) (eval u q)
eval (or {s = s} t u) q = lift2 or_v s (eval t q) (eval u q)
