-- `DecisionSet::targeted` meets its contract: the set of one value has the code 1, 2 or 4.
use Prim.Native.Nat.{ℕ, ◌<◌}
use mathlib.Core.Path.{◌≡◌, refl}
use native.Mathlib.Omega.{arith}
use Rattle.ptacl.specs.Value.{Value, v1, v0, v_u}
use Rattle.ptacl.specs.Values.{single, union, under, code, set_of}
use Rattle.ptacl.specs.Cases.{Targeted}
use Rattle.ptacl.proofs.Codes.{code_small, of_code}
use Rattle.ptacl.proofs.DecisionSet.targeted.Goals as goal

by_value : {c d e : ℕ} → e < 8 → (c ≡ 1 → e ≡ code (under v1 (set_of d))) → (c ≡ 2 → e ≡ code (under v0 (set_of d)))
    → (c ≡ 4 → e ≡ code (under v_u (set_of d))) → Targeted c d e
by_value {c} {d} {e} small one zero unknown = record { value = go; small = small }
  where
    go : (v : Value) → c ≡ code (single v) → e ≡ code (under v (set_of d))
    go v1 = one
    go v0 = zero
    go v_u = unknown

pub returns-in-1 : goal.returns-in-1
unfolding under
returns-in-1 c = by_value (omega arith) (λ e. of_code (λ k. k) (λ s. s) refl c.args.self.code) (λ e. omega arith) (λ e. omega arith)

pub returns-in-2 : goal.returns-in-2
unfolding under
returns-in-2 c = by_value (omega arith) (λ e. omega arith) (λ e. refl) (λ e. omega arith)

pub returns-in_default : goal.returns-in_default
unfolding under
returns-in_default c = by_value (code_small (union (set_of c.args.self.code) (set_of 4)) c.union.ensures) (λ e. omega arith) (λ e. omega arith) (λ e. c.union.ensures)
