-- The last pair moved to its place by swaps.
use Prim.Native.Nat.{ℕ, zero, suc, ◌-◌, ◌<◌}
use mathlib.Core.Path.{◌≡◌, refl, sym, ap, ◌∙◌}
use mathlib.Core.List.{List, [], ◌∷◌}
use native.Mathlib.Omega.{arith}
use native.Mathlib.Numerals.{unary_clauses}
use lib.ListN.{length, take, drop, get_or, set}
use Rattle.std.specs.List.{insert, swap}
use Rattle.std.proofs.lemmas.List.{length-take, length-drop, length-append}
use Rattle.std.proofs.lemmas.List.Edits.{swap_is}

module _ {X : Type 0} where
  sets : (xs : List X) (i : ℕ) (x : X) → i < length xs
      → set (set (insert xs (suc i) x) i (get_or (insert xs (suc i) x) (suc i) x)) (suc i) (get_or (insert xs (suc i) x) i x) ≡ insert xs i x
  sets [] i x h = absurd (omega arith)
  sets (y ∷ xs) zero x h = refl
  sets (y ∷ xs) (suc i) x h = ap (λ l. y ∷ l) (sets xs i x (omega arith))

  -- swapped with the element before it, it stands one place lower
  pub insert_down : (xs : List X) (i : ℕ) (x : X) → 0 < i → i < length (insert xs i x) → swap (insert xs i x) (i - 1) i ≡ insert xs (i - 1) x
  insert_down xs zero x h l = absurd (omega arith)
  insert_down xs (suc i) x h l =
      let a = length-take (suc i) xs in
      let b = length-drop (suc i) xs in
      let c = length-append (take (suc i) xs) (x ∷ drop (suc i) xs) in
      simp unary_clauses (sym (swap_is (insert xs (suc i) x) i (suc i) x (omega arith) l) ∙ sets xs i x (omega arith))
