-- The order of a request file's pairs: none is refused exactly if they ascend, else the refusal is at a pair that is there.
use Prim.Native.Nat.{ℕ, ◌+◌, ◌*◌, ◌<◌}
use mathlib.Core.Path.{◌≡◌, refl, ap, ◌∙◌}
use mathlib.Core.Bool.{Bool, true, false}
use mathlib.Core.List.{List, [], ◌∷◌}
use native.Mathlib.Omega.{arith}
use lib.ListN.{length}
use Rattle.ptacl.specs.Request.{Pair, Request, below, ascending}
use Rattle.files.specs.Refusal.{accepted, refused}
use Rattle.files.specs.ReadRequest.{in_order}

pub data Ordering (number : ℕ) (q : Request) (at : ℕ) (xs : List Pair) : Type 0 where
  ascends : ascending xs ≡ true → in_order number q at xs ≡ accepted q → Ordering number q at xs
  falls : (k : ℕ) → 0 < k → k < length xs → ascending xs ≡ false → in_order number q at xs ≡ refused number (at + 4 * k) → Ordering number q at xs

pub ordering : (number : ℕ) (q : Request) (at : ℕ) (xs : List Pair) → Ordering number q at xs
ordering number q at [] = ascends refl refl
ordering number q at (x ∷ []) = ascends refl refl
ordering number q at (x ∷ y ∷ xs) = head (below x y) refl (ordering number q (at + 4) (y ∷ xs))
  where
    head : (b : Bool) → below x y ≡ b → Ordering number q (at + 4) (y ∷ xs) → Ordering number q at (x ∷ y ∷ xs)
    head false e o = falls 1 (omega arith) (omega arith) (rw e) (rw e (ap (refused number) (omega arith)))
    head true e (ascends a i) = ascends (rw e a) (rw e i)
    head true e (falls k m l a i) = falls (k + 1) (omega arith) (omega arith) (rw e a) (rw e (i ∙ ap (refused number) (omega arith)))
