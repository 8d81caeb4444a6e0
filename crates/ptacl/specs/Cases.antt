-- The enum of a target's value, by cases; and a targeted policy's set, by codes.
use Rattle.std.specs.Prelude.{ℕ, ◌<◌, ◌≡◌}
use Rattle.ptacl.specs.Value.{Value, v1, v0, v_u}
use Rattle.ptacl.specs.Values.{single, under, code, set_of}
use Rattle.ptacl.specs.declared.TargetValue.{TargetValue}
use Rattle.ptacl.specs.declared.TargetValue.TheVariants.{One, Zero, Undefined}

abbrev pub value_of : TargetValue → Value
value_of One = v1
value_of Zero = v0
value_of Undefined = v_u

-- a targeted policy by codes: of the set of its target's value alone, of its body's set, of its own
pub record Targeted (target body own : ℕ) : Type 0 where
  pub value : (v : Value) → target ≡ code (single v) → own ≡ code (under v (set_of body))
  pub small : own < 8
