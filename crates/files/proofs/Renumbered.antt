-- A request file is refused alike, whichever number its refusals begin at: reading from 21 on tells what reading from another number tells.
use Prim.Native.Nat.{ℕ, ◌+◌, ◌-◌, ◌/◌, ◌%◌}
use mathlib.Core.Path.{◌≡◌, refl, ap}
use mathlib.Core.Bool.{Bool, true, false, cond}
use mathlib.Core.List.{List, [], ◌∷◌}
use native.Mathlib.Omega.{arith}
use lib.ListN.{length, get_or}
use lib.Dec.{eqb, ltb}
use Rattle.ptacl.specs.Request.{Pair, Request, below_head}
use Rattle.files.specs.Refusal.{Read, accepted, refused, dec16, unframed}
use Rattle.files.specs.ReadRequest.{pairs_at, in_order, read_request_from, read_request}

-- what is refused with a number from 21 on, with one from `first` on
abbrev pub numbered_from : ℕ → Read Request → Read Request
numbered_from first (accepted q) = accepted q
numbered_from first (refused n at) = refused (first + (n - 21)) at

module _ (first : ℕ) where
  at_cond : (c : Bool) (a b : Read Request) {x y : Read Request} → numbered_from first a ≡ x → numbered_from first b ≡ y
      → numbered_from first (cond c a b) ≡ cond c x y
  at_cond true a b e f = e
  at_cond false a b e f = f

  ordered : (q : Request) (at : ℕ) (xs : List Pair) → numbered_from first (in_order 26 q at xs) ≡ in_order (first + 5) q at xs
  ordered q at [] = refl
  ordered q at (x ∷ xs) = at_cond (below_head x xs) _ _ (ordered q (at + 4) xs) refl

  pub renumbered : (s : List ℕ) → numbered_from first (read_request s) ≡ read_request_from first s
  unfolding read_request_from unframed
  renumbered s =
      let count = (length s - 3) / 4 in
      at_cond (ltb (length s) 3) _ _ (ap (λ n. refused n (length s)) (omega arith))
      (at_cond (eqb (get_or s 0 0) 1) _ _
      (at_cond (eqb (dec16 s 1) (length s - 3)) _ _
      (at_cond (ltb 0 ((length s - 3) % 4)) _ _ refl
      (at_cond (ltb 256 count) _ _ refl (ordered (pairs_at count s 3) 3 (pairs_at count s 3)))) refl) refl)
