-- The code of a set and the set of a code; a rule over codes, tested at all of the eight, holds of every number.
use Prim.Native.Nat.{ℕ, ◌+◌, ◌*◌, ◌/◌, ◌%◌, ◌<◌}
use mathlib.Core.Path.{◌≡◌, refl, ap, ap₂, ◌∙◌}
use mathlib.Core.Bool.{Bool, true}
use mathlib.Core.List.{List}
use native.Mathlib.Omega.{arith}
use lib.Dec.{eqb, ltb}
use lib.ListN.{get_or}
use borrow.Author.Tests.{eqb-true, ltb-true}
use Rattle.ptacl.specs.Value.{Value, v1}
use Rattle.ptacl.specs.Values.{Values, is_empty, only, single, each, each2, code, set_of}
use Rattle.ptacl.specs.Pairs.{all_below}
use Rattle.ptacl.proofs.Bools.{below_at}
use Rattle.ptacl.proofs.Finite.{values, sets, by}

pub code_set : (s : Values) → set_of (code s) ≡ s
code_set s = λ i. record {
  has1 = by sets (λ s. (set_of (code s)).has1) (λ s. s.has1) refl s i;
  has0 = by sets (λ s. (set_of (code s)).has0) (λ s. s.has0) refl s i;
  has_u = by sets (λ s. (set_of (code s)).has_u) (λ s. s.has_u) refl s i;
}

-- an operation on the sets of codes is that on the sets
pub code_each : (f : Value → Value) (s : Values) → code (each f (set_of (code s))) ≡ code (each f s)
code_each f s = ap (λ z. code (each f z)) (code_set s)

pub code_each2 : (f : Value → Value → Value) (s r : Values) → code (each2 f (set_of (code s)) (set_of (code r))) ≡ code (each2 f s r)
code_each2 f s r = ap₂ (λ y z. code (each2 f y z)) (code_set s) (code_set r)

-- empty is code 0, {1} is code 1
pub empty_code : (s : Values) → is_empty s ≡ eqb (code s) 0
unfolding is_empty
empty_code = by sets _ _ refl

pub allow_code : (s : Values) → only v1 s ≡ eqb (code s) 1
unfolding only
allow_code = by sets _ _ refl

pub code_small : {c : ℕ} (s : Values) → c ≡ code s → c < 8
code_small s e = rw e (ltb-true _ _ (sets.at (λ s. ltb (code s) 8) refl s))

-- an operation that is right on the set of each value alone, which is computed
pub of_single : (f : Value → Value) → values.all (λ v. eqb (code (each f (single v))) (code (single (f v)))) ≡ true
    → (v : Value) → code (each f (single v)) ≡ code (single (f v))
of_single f h v = eqb-true _ _ (values.at (λ v. eqb (code (each f (single v))) (code (single (f v)))) h v)

pub of_singles : (f : Value → Value → Value)
    → values.all (λ v. values.all (λ w. eqb (code (each2 f (single v) (single w))) (code (single (f v w))))) ≡ true
    → (v w : Value) → code (each2 f (single v) (single w)) ≡ code (single (f v w))
of_singles f h v w = eqb-true _ _ (values.at (λ w. eqb (code (each2 f (single v) (single w))) (code (single (f v w))))
    (values.at (λ v. values.all (λ w. eqb (code (each2 f (single v) (single w))) (code (single (f v w))))) h v) w)

-- only the last three bits say what set it is
low_bits : (c : ℕ) → set_of (c % 8) ≡ set_of c
low_bits c = λ i. record { has1 = eqb (one i) 1; has0 = eqb (two i) 1; has_u = eqb (four i) 1 }
  where
    one : c % 8 % 2 ≡ c % 2
    one = omega arith

    two : c % 8 / 2 % 2 ≡ c / 2 % 2
    two = omega arith

    four : c % 8 / 4 % 2 ≡ c / 4 % 2
    four = omega arith

-- a function of codes is right at all eight
abbrev pub right : (ℕ → ℕ) → (Values → Values) → Bool
right t f = all_below (λ k. eqb (t k) (code (f (set_of k)))) 8

pub of_code : (t : ℕ → ℕ) (f : Values → Values) → right t f ≡ true → (c : ℕ) → t (c % 8) ≡ code (f (set_of c))
of_code t f h c =
    eqb-true _ _ (below_at (λ k. eqb (t k) (code (f (set_of k)))) 8 h (c % 8) (omega arith)) ∙ ap (λ s. code (f s)) (low_bits c)

-- and so for a function of two codes, at all 64 pairs
pub of_codes : (t : ℕ → ℕ → ℕ) (f : Values → Values → Values) → all_below (λ k. right (t k) (f (set_of k))) 8 ≡ true
    → (c d : ℕ) → t (c % 8) (d % 8) ≡ code (f (set_of c) (set_of d))
of_codes t f h c d =
    of_code (t (c % 8)) (f (set_of (c % 8))) (below_at (λ k. right (t k) (f (set_of k))) 8 h (c % 8) (omega arith)) d
    ∙ ap (λ s. code (f s (set_of d))) (low_bits c)

-- so a table of 64 numbers is right at all pairs
pub of_table : (l : List ℕ) (f : Values → Values → Values) → all_below (λ i. right (λ j. get_or l (i * 8 + j) 0) (f (set_of i))) 8 ≡ true
    → (c d : ℕ) → get_or l (c % 8 * 8 + d % 8) 0 ≡ code (f (set_of c) (set_of d))
of_table l f = of_codes (λ i j. get_or l (i * 8 + j) 0) f
