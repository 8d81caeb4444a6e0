-- Tests as equations, and a test that passes at every number below a bound.
use Prim.Native.Nat.{ℕ, zero, suc, ◌<◌}
use mathlib.Core.Path.{◌≡◌, refl, sym, subst, ◌∙◌}
use mathlib.Core.Logic.{◌⊎◌, inl, inr}
use mathlib.Core.Bool.{Bool, true, false, not, ◌&&◌, ◌||◌, true≢false}
use native.Mathlib.Omega.{arith}
use lib.Dec.{eqb}
use borrow.Author.Tests.{eqb-true, eqb-false, eq-eqb}
use Rattle.ptacl.specs.Pairs.{all_below}

pub either {ℓ} : {C : Type ℓ} (b : Bool) → (b ≡ true → C) → (b ≡ false → C) → C
either true f g = f refl
either false f g = g refl

pub clash {ℓ} : {C : Type ℓ} {b : Bool} → b ≡ true → b ≡ false → C
clash h k = absurd (true≢false (sym h ∙ k))

pub refute : {b : Bool} → (b ≡ true → ⊥) → b ≡ false
refute {b = true} h = absurd (h refl)
refute {b = false} h = refl

pub not_false : {b : Bool} → b ≡ false → not b ≡ true
not_false h = cc

pub and_left : {a : Bool} (b : Bool) → (a && b) ≡ true → a ≡ true
and_left {a = true} b h = refl
and_left {a = false} b h = h

pub and_right : (a : Bool) {b : Bool} → (a && b) ≡ true → b ≡ true
and_right true h = h
and_right false h = clash h refl

pub and_both : {a b : Bool} → a ≡ true → b ≡ true → (a && b) ≡ true
and_both h k = cc

pub or_left : {a : Bool} (b : Bool) → a ≡ true → (a || b) ≡ true
or_left b h = cc

pub or_right : (a : Bool) {b : Bool} → b ≡ true → (a || b) ≡ true
or_right true h = refl
or_right false h = h

pub or_split : (a : Bool) {b : Bool} → (a || b) ≡ true → (a ≡ true) ⊎ (b ≡ true)
or_split true h = inl refl
or_split false h = inr h

pub or_swap : (a b c : Bool) → (a || (b || c)) ≡ (b || (a || c))
or_swap true true c = refl
or_swap true false c = refl
or_swap false b c = refl

-- two tests that pass together are equal
pub iff : {a b : Bool} → (a ≡ true → b ≡ true) → (b ≡ true → a ≡ true) → a ≡ b
iff {a = true} f g = sym (f refl)
iff {a = false} {b = true} f g = g refl
iff {a = false} {b = false} f g = refl

pub eqb_same : (n : ℕ) → eqb n n ≡ true
eqb_same n = eq-eqb n n refl

pub below_at : (f : ℕ → Bool) (n : ℕ) → all_below f n ≡ true → (k : ℕ) → k < n → f k ≡ true
below_at f zero h k l = absurd (omega arith)
below_at f (suc n) h k l = either (eqb k n)
    (λ e. subst (λ m. f m ≡ true) (sym (eqb-true k n e)) (and_left _ h))
    (λ e. below_at f n (and_right (f n) h) k (let d : (k ≡ n → ⊥) = eqb-false k n e in omega arith))

-- implications between tests, also between tests that are written another way
pub and_up : (a b : Bool) {c d : Bool} → (a ≡ true → c ≡ true) → (b ≡ true → d ≡ true) → (a && b) ≡ true → (c && d) ≡ true
and_up a b f g h = and_both (f (and_left b h)) (g (and_right a h))

pub or_up : (a b : Bool) {c d : Bool} → (a ≡ true → c ≡ true) → (b ≡ true → d ≡ true) → (a || b) ≡ true → (c || d) ≡ true
or_up true b {d} f g h = or_left d (f refl)
or_up false b {c} f g h = or_right c (g h)

pub via : {a b c d : Bool} → a ≡ c → b ≡ d → (c ≡ true → d ≡ true) → a ≡ true → b ≡ true
via e k f h = k ∙ f (sym e ∙ h)
