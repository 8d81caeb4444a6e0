-- A policy of depth 32 at which the stack holds 32 values: 31 ands, each the left side of the one before.
use Prim.Native.Nat.{ℕ, zero, suc}
use mathlib.Core.Path.{◌≡◌, refl}
use mathlib.Core.List.{List}
use native.Mathlib.Omega.{arith}
use lib.ListN.{length}
use Rattle.ptacl.specs.Request.{Request}
use Rattle.ptacl.specs.Term.{Policy, allow, and}
use Rattle.files.specs.Encoding.{depth, InRange, policy_file, IsPolicy}
use Rattle.flat.specs.Places.{place_of}
use Rattle.flat.specs.Finished.{Finished}
use Rattle.flat.proofs.Row.{finished_length}

abbrev pub leftward : ℕ → Policy
leftward zero = allow
leftward (suc n) = and (leftward n) allow

pub deepest : depth (leftward 31) ≡ 32
unfolding depth
deepest = refl

file : IsPolicy (policy_file (leftward 31)) (leftward 31)
unfolding depth InRange
file = record { file = refl; fits = record { few = omega arith; shallow = omega arith; range = tt } }

-- at the leftmost leaf, behind the 31 ands
pub reaches : {q : Request} {stack : List ℕ} → Finished (policy_file (leftward 31)) (place_of (policy_file (leftward 31)) 31) q stack → length stack ≡ 32
reaches f = finished_length file 31 f
