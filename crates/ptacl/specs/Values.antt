-- Sets of values, the operations on every member or every pair of members, and
-- the code of a set.
use Rattle.std.specs.Prelude.{ℕ, ◌+◌, ◌/◌, ◌%◌, Bool, not, ◌&&◌, ◌||◌, cond, eqb}
use Rattle.ptacl.specs.Value.{Value, v1, v0, v_u, same}

-- a set of values: which of the three it holds
pub record Values : Type 0 where
  pub has1 : Bool
  pub has0 : Bool
  pub has_u : Bool

abbrev pub member : Values → Value → Bool
member s v1 = s.has1
member s v0 = s.has0
member s v_u = s.has_u

-- the set of the values that pass a test; some value passes it
abbrev pub those : (Value → Bool) → Values
those f = record { has1 = f v1; has0 = f v0; has_u = f v_u }

abbrev pub some : (Value → Bool) → Bool
some f = f v1 || (f v0 || f v_u)

abbrev pub single : Value → Values
single v = those (same v)

abbrev pub union : Values → Values → Values
union s r = those (λ v. member s v || member r v)

-- an operation acts on every member, or on every pair of members
abbrev pub each : (Value → Value) → Values → Values
each f s = those (λ v. some (λ a. member s a && same (f a) v))

abbrev pub each2 : (Value → Value → Value) → Values → Values → Values
each2 f s r = those (λ v. some (λ a. some (λ b. member s a && (member r b && same (f a b) v))))

-- a targeted policy: its body's set if the target is 1, {U} if it is 0, the body's set with U added if it is U
unfoldable pub under : Value → Values → Values
under v1 s = s
under v0 s = single v_u
under v_u s = union s (single v_u)

unfoldable pub is_empty : Values → Bool
is_empty s = not (some (member s))

-- the set is exactly {v}
unfoldable pub only : Value → Values → Bool
only v s = member s v && not (some (λ w. member s w && not (same v w)))

-- 1 for allow, plus 2 for deny, plus 4 for U
abbrev pub code : Values → ℕ
code s = cond s.has1 1 0 + (cond s.has0 2 0 + cond s.has_u 4 0)

-- the set that a code from 0 to 7 stands for
abbrev pub set_of : ℕ → Values
set_of c = record { has1 = eqb (c % 2) 1; has0 = eqb (c / 2 % 2) 1; has_u = eqb (c / 4 % 2) 1 }
