-- What a term comes to for the requests of the lanes, from its node and from what the terms below it come to.
use Prim.Native.Nat.{ℕ, ◌+◌, ◌-◌}
use mathlib.Core.Path.{◌≡◌, refl, sym, ap, ◌∙◌}
use mathlib.Core.Bool.{Bool, true, not, ◌||◌}
use mathlib.Core.List.{List, [], ◌∷◌, map}
use lib.Dec.{eqb}
use lib.Lanes.{zip2}
use borrow.Author.Tests.{eqb-true}
use Rattle.std.proofs.lemmas.Simd.{map-map}
use Rattle.std.specs.List.{range_with_len}
use Rattle.ptacl.specs.Value.{not_v, default_v, and_v, or_v}
use Rattle.ptacl.specs.Values.{Values, single, each, each2, under, is_empty, code, set_of}
use Rattle.ptacl.specs.Request.{Request}
use Rattle.ptacl.specs.Exposure.{strict}
use Rattle.ptacl.specs.Term.{Sort, target, policy, Policy, Term, Node, an_atom, a_deny, an_allow, a_targeted, a_not, a_default, an_and, an_or, shape}
use Rattle.ptacl.specs.Meaning.{lift, lift2, eval}
use Rattle.ptacl.proofs.Finite.{Finite, values, sets}
use Rattle.ptacl.proofs.Codes.{code_set}
use Rattle.ptacl.proofs.Rules.{nonempty}
use Rattle.files.specs.Refusal.{Read, accepted}
use Rattle.files.specs.Prefix.{Scan, done, scan}
use Rattle.files.specs.Views.{accepted_or}
use Rattle.files.specs.ReadPolicy.{head_at, in_bytes}
use Rattle.files.specs.Reading.{◌>>=◌, node_in, told, told_below}
use Rattle.files.proofs.Terms.{Comes, told_more}
use Rattle.table.specs.declared.row.PairRow.{PairRow}
use Rattle.table.specs.Rows.{lanes, every_lane, requests, request}
use Rattle.table.specs.Outcomes.{outcomes, not_target, optional_target, and_target, or_target, not_set, default_set, targeted_set, and_set, or_set, row_steps}

-- two sets with the same code; two rules for a set that agree at every value, at every two wherever a condition holds
same_code : (s r : Values) → code s ≡ code r → s ≡ r
same_code s r e = sym (code_set s) ∙ (ap set_of e ∙ code_set r)

same_set : {A : Type 0} (F : Finite A) (f g : A → Values) → F.all (λ a. eqb (code (f a)) (code (g a))) ≡ true → (a : A) → f a ≡ g a
same_set F f g h a = same_code (f a) (g a) (eqb-true _ _ (F.at (λ a. eqb (code (f a)) (code (g a))) h a))

module _ {A B : Type 0} (F : Finite A) (G : Finite B) (p : A → B → Bool) (f g : A → B → Values) where
  abbrev agree : A → B → Bool
  agree a b = not (p a b) || eqb (code (f a b)) (code (g a b))

  same_set2 : F.all (λ a. G.all (agree a)) ≡ true → (a : A) (b : B) → p a b ≡ true → f a b ≡ g a b
  same_set2 h a b e =
      let k = G.at (agree a) (F.at (λ a. G.all (agree a)) h a) b in same_code (f a b) (g a b) (eqb-true _ _ (rw e at k))

-- a map by way of another, of two others
module _ {Q A B : Type 0} where
  mapped : (f : Q → B) (h : A → B) (g : Q → A) → ((q : Q) → f q ≡ h (g q)) → (qs : List Q) → map f qs ≡ map h (map g qs)
  mapped f h g e [] = refl
  mapped f h g e (q ∷ qs) = rw (e q, mapped f h g e qs)

  zipped : {C : Type 0} (f : Q → B) (h : A → C → B) (g : Q → A) (k : Q → C) → ((q : Q) → f q ≡ h (g q) (k q))
      → (qs : List Q) → map f qs ≡ zip2 h (map g qs) (map k qs)
  zipped f h g k e [] = refl
  zipped f h g k e (q ∷ qs) = rw (e q, zipped f h g k e qs)

every_mapped : {Q A : Type 0} (a : A) (f : ℕ → Q) → map (λ q. a) (lanes f) ≡ every_lane a
unfolding lanes
every_mapped a f = map-map (λ q. a) f (range_with_len 0 512)

both_filled : (p r : Term policy) (q : Request) → not (is_empty (eval p q) || is_empty (eval r q)) ≡ true
both_filled p r q = rw (nonempty p q, nonempty r q)

module _ (rows : List PairRow) where
  abbrev qs : List Request
  qs = requests rows

  law : (s : Sort) (n : Node s) → Comes (λ s t. outcomes qs t) (row_steps qs) n (shape n)
  unfolding lift lift2 under is_empty
  law target an_atom = λ n v. refl
  law policy a_deny = every_mapped _ (request rows)
  law policy an_allow = every_mapped _ (request rows)
  law policy a_targeted = λ t p. zipped _ targeted_set _ _
      (λ q. same_set2 values sets (λ v s. true) (λ v s. under v s) (λ v s. targeted_set (single v) s) refl (eval t q) (eval p q) refl) qs
  law target (a_not target) = λ t. mapped _ not_target _ (λ q. same_set values (λ v. single (not_v v)) (λ v. not_target (single v)) refl (eval t q)) qs
  law policy (a_not policy) = λ t. mapped _ not_set _ (λ q. same_set sets (each not_v) not_set refl (eval t q)) qs
  law target (a_default target) = λ t. mapped _ optional_target _
      (λ q. same_set values (λ v. single (default_v v)) (λ v. optional_target (single v)) refl (eval t q)) qs
  law policy (a_default policy) = λ t. mapped _ default_set _ (λ q. same_set sets (each default_v) default_set refl (eval t q)) qs
  law target (an_and target) = λ t u. zipped _ and_target _ _
      (λ q. same_set2 values values (λ v w. true) (λ v w. single (and_v v w)) (λ v w. and_target (single v) (single w)) refl (eval t q) (eval u q) refl) qs
  law policy (an_and policy) = λ t u. zipped _ and_set _ _
      (λ q. same_set2 sets sets (λ s r. not (is_empty s || is_empty r)) (each2 and_v) and_set refl (eval t q) (eval u q) (both_filled t u q)) qs
  law target (an_or target) = λ t u. zipped _ or_target _ _
      (λ q. same_set2 values values (λ v w. true) (λ v w. single (or_v v w)) (λ v w. or_target (single v) (single w)) refl (eval t q) (eval u q) refl) qs
  law policy (an_or policy) = λ t u. zipped _ or_set _ _
      (λ q. same_set2 sets sets (λ s r. not (is_empty s || is_empty r)) (each2 or_v) or_set refl (eval t q) (eval u q) (both_filled t u q)) qs

pub rows_more : (rows : List PairRow) (b : List ℕ) (s : Sort) (left at k : ℕ) → told (outcomes (requests rows)) (scan (in_bytes 255 b) left s tt at k)
    ≡ (node_in (head_at 255 b s left at k) >>= λ tag. told_below (row_steps (requests rows)) tag s b
    (λ r a m. told (outcomes (requests rows)) (scan (in_bytes 255 b) (left - 1) r tt a m)) (at + 1) (k + 1))
rows_more rows b s left at k = told_more (λ s t. outcomes (requests rows) t) (row_steps (requests rows)) (law rows) b s left at k

-- what a policy that was read comes to, where its outcomes are told
pub judged : (rows : List PairRow) {p : Policy} {x : Scan Policy} {a k next n : ℕ} {xs : List Values} {r : List Bool} → x ≡ done p a k
    → told (outcomes (requests rows)) x ≡ accepted (xs, next, n) → r ≡ map strict xs → r ≡ map (λ q. strict (eval p q)) (requests rows)
judged rows {p} {xs = xs} e f g =
    let h : xs ≡ outcomes (requests rows) p = sym (ap (λ (r : Read (List Values × ℕ × ℕ)). (accepted_or {A = List Values × ℕ × ℕ} ([], 0, 0) r).0) (rw e at f)) in
    g ∙ (ap (map strict) h ∙ map-map strict (λ q. eval p q) (requests rows))
