-- The three values and their operations.
use Rattle.std.specs.Prelude.{Bool, true, false, ◌||◌, cond}

-- 1, 0 and undefined
pub data Value : Type 0 where
  v1 v0 v_u : Value

abbrev pub same : Value → Value → Bool
same v1 v1 = true
same v1 v0 = false
same v1 v_u = false
same v0 v1 = false
same v0 v0 = true
same v0 v_u = false
same v_u v1 = false
same v_u v0 = false
same v_u v_u = true

-- not: 1 to 0, 0 to 1, U to U
abbrev pub not_v : Value → Value
not_v v1 = v0
not_v v0 = v1
not_v v_u = v_u

-- deny-by-default and optional: U to 0, the rest kept
abbrev pub default_v : Value → Value
default_v v1 = v1
default_v v0 = v0
default_v v_u = v0

-- strong conjunction: 0 if either side is 0; else U if either side is U; else 1
abbrev pub and_v : Value → Value → Value
and_v a b = cond (same a v0 || same b v0) v0 (cond (same a v_u || same b v_u) v_u v1)

-- an or has the meaning of not(and(not, not)), so 1 if either side is 1; else U if either side is U; else 0
abbrev pub or_v : Value → Value → Value
or_v a b = cond (same a v1 || same b v1) v1 (cond (same a v_u || same b v_u) v_u v0)
