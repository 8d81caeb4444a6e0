-- There is only one first pair of numbers in a relation.
use Prim.Native.Nat.{ℕ, ◌<◌}
use mathlib.Core.Path.{◌≡◌, subst}
use native.Mathlib.Omega.{arith}
use Rattle.ptacl.specs.Exposure.{First}

module _ {E : ℕ → ℕ → Type 0} where
  first_m : {m i m' i' : ℕ} → First E m i → First E m' i' → m ≡ m'
  first_m {m} {m'} h k =
      let a : (m < m' → ⊥) = λ l. k.earlier l h.hit in
      let b : (m' < m → ⊥) = λ l. h.earlier l k.hit in
      omega arith

  first_i : {m i i' : ℕ} → First E m i → First E m i' → i ≡ i'
  first_i {i} {i'} h k =
      let a : (i < i' → ⊥) = λ l. k.before l h.hit in
      let b : (i' < i → ⊥) = λ l. h.before l k.hit in
      omega arith

  pub first_unique : {m i m' i' : ℕ} → First E m i → First E m' i' → (m ≡ m') × (i ≡ i')
  first_unique {i} h k = let e = first_m h k in (e, first_i (subst (λ z. First E z i) e h) k)
