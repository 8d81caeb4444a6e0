-- Two tests that agree at every value of a finite type, which is computed, agree. A test that passes at every node, which is computed,
-- passes at each; so no byte is that of nodes of both sorts.
use mathlib.Core.Path.{◌≡◌, refl, sym}
use mathlib.Core.Bool.{Bool, true, false, not as no, ◌&&◌, ◌||◌, beq, true≢false}
use lib.Dec.{eqb}
use borrow.Author.Tests.{eq-eqb}
use Rattle.ptacl.specs.Value.{Value, v1, v0, v_u}
use Rattle.ptacl.specs.Values.{Values}
use Rattle.ptacl.specs.Term.{Sort, target, policy, Node, an_atom, a_deny, an_allow, a_targeted, a_not, a_default, an_and, an_or, tag_of}
use Rattle.ptacl.proofs.Bools.{and_left, and_right}

-- a test of all values, and that it tells of each
pub record Finite (A : Type 0) : Type 0 where
  pub all : (A → Bool) → Bool
  pub at : (f : A → Bool) → all f ≡ true → (a : A) → f a ≡ true

pub at_bool : (f : Bool → Bool) → (f true && f false) ≡ true → (b : Bool) → f b ≡ true
at_bool f h true = and_left _ h
at_bool f h false = and_right (f true) h

pub at_value : (f : Value → Bool) → (f v1 && (f v0 && f v_u)) ≡ true → (v : Value) → f v ≡ true
at_value f h v1 = and_left _ h
at_value f h v0 = and_left _ (and_right (f v1) h)
at_value f h v_u = and_right (f v0) (and_right (f v1) h)

abbrev pub bools : Finite Bool
bools = record { all = λ f. f true && f false; at = at_bool }

abbrev pub values : Finite Value
values = record { all = λ f. f v1 && (f v0 && f v_u); at = at_value }

abbrev pub sets : Finite Values
sets = record {
  all = λ f. bools.all (λ a. bools.all (λ b. bools.all (λ c. f (record { has1 = a; has0 = b; has_u = c }))));
  at = λ f h s. bools.at (λ c. f (record { has1 = s.has1; has0 = s.has0; has_u = c }))
      (bools.at (λ b. bools.all (λ c. f (record { has1 = s.has1; has0 = b; has_u = c })))
      (bools.at (λ a. bools.all (λ b. bools.all (λ c. f (record { has1 = a; has0 = b; has_u = c })))) h s.has1) s.has0) s.has_u;
}

beq_equal : {a b : Bool} → beq a b ≡ true → a ≡ b
beq_equal {a = true} {b = true} h = refl
beq_equal {a = true} {b = false} h = sym h
beq_equal {a = false} {b = true} h = h
beq_equal {a = false} {b = false} h = refl

module _ {A : Type 0} (F : Finite A) where
  pub by : (f g : A → Bool) → F.all (λ a. beq (f a) (g a)) ≡ true → (a : A) → f a ≡ g a
  by f g h a = beq_equal (F.at (λ a. beq (f a) (g a)) h a)

  module _ {B : Type 0} (G : Finite B) where
    pub by2 : (f g : A → B → Bool) → F.all (λ a. G.all (λ b. beq (f a b) (g a b))) ≡ true → (a : A) (b : B) → f a b ≡ g a b
    by2 f g h a b = beq_equal (G.at (λ b. beq (f a b) (g a b)) (F.at (λ a. G.all (λ b. beq (f a b) (g a b))) h a) b)

-- four tests at once
abbrev four : Bool → Bool → Bool → Bool → Bool
four a b c d = (a && b) && (c && d)

abbrev Pass : Bool → Bool → Bool → Bool → Type 0
Pass a b c d = (a ≡ true) × (b ≡ true) × (c ≡ true) × (d ≡ true)

four_pass : (a b c d : Bool) → four a b c d ≡ true → Pass a b c d
four_pass a b c d h =
    let l = and_left (c && d) h in let r = and_right (a && b) h in (and_left b l, and_right a l, and_left d r, and_right c r)

module _ (f : (s : Sort) → Node s → Bool) where
  abbrev on_both : ((s : Sort) → Node s) → Bool
  on_both n = f target (n target) && f policy (n policy)

  at_both : (n : (s : Sort) → Node s) → on_both n ≡ true → (s : Sort) → f s (n s) ≡ true
  at_both n h target = and_left _ h
  at_both n h policy = and_right (f target (n target)) h

  -- the nodes of one sort, and of either
  abbrev outer : Bool
  outer = four (f target an_atom) (f policy a_deny) (f policy an_allow) (f policy a_targeted)

  abbrev inner : Bool
  inner = four (on_both a_not) (on_both a_default) (on_both an_and) (on_both an_or)

  outer_pass : outer ≡ true → Pass (f target an_atom) (f policy a_deny) (f policy an_allow) (f policy a_targeted)
  outer_pass = four_pass _ _ _ _

  inner_pass : inner ≡ true → Pass (on_both a_not) (on_both a_default) (on_both an_and) (on_both an_or)
  inner_pass = four_pass _ _ _ _

  abbrev pub every_node : Bool
  every_node = outer && inner

  pub at_node : every_node ≡ true → {s : Sort} (n : Node s) → f s n ≡ true
  at_node h an_atom = (outer_pass (and_left inner h)).0
  at_node h a_deny = (outer_pass (and_left inner h)).1
  at_node h an_allow = (outer_pass (and_left inner h)).2
  at_node h a_targeted = (outer_pass (and_left inner h)).3
  at_node h (a_not s) = at_both a_not (inner_pass (and_right outer h)).0 s
  at_node h (a_default s) = at_both a_default (inner_pass (and_right outer h)).1 s
  at_node h (an_and s) = at_both an_and (inner_pass (and_right outer h)).2 s
  at_node h (an_or s) = at_both an_or (inner_pass (and_right outer h)).3 s

-- the nodes of one kind, of either sort, and those of another have no byte in common, which is computed
abbrev apart_by : ((s : Sort) → Node s) → ((s : Sort) → Node s) → Bool
apart_by k l = on_both (λ r m. on_both (λ s n. no (eqb (tag_of m) (tag_of n))) l) k

pub tags_differ : (k l : (s : Sort) → Node s) → apart_by k l ≡ true → (r s : Sort) → no (eqb (tag_of (k r)) (tag_of (l s))) ≡ true
tags_differ k l h r s =
    at_both (λ s n. no (eqb (tag_of (k r)) (tag_of n))) l (at_both (λ r m. on_both (λ s n. no (eqb (tag_of m) (tag_of n))) l) k h r) s

-- of two nodes with the same byte the sort is the same
abbrev same_sort : Sort → Sort → Bool
same_sort target target = true
same_sort target policy = false
same_sort policy target = false
same_sort policy policy = true

abbrev told : (r : Sort) → Node r → (s : Sort) → Node s → Bool
told r m s n = no (eqb (tag_of m) (tag_of n)) || same_sort r s

pub tag_sort : {r s : Sort} (m : Node r) (n : Node s) → tag_of m ≡ tag_of n → r ≡ s
tag_sort {r} {s} m n e =
    let h : told r m s n ≡ true = at_node (told r m) (at_node (λ r m. every_node (told r m)) refl m) n in
    go r s (rw (eq-eqb (tag_of m) (tag_of n) e) at h)
  where
    go : (r s : Sort) → same_sort r s ≡ true → r ≡ s
    go target target h = refl
    go target policy h = absurd (true≢false (sym h))
    go policy target h = absurd (true≢false (sym h))
    go policy policy h = refl
