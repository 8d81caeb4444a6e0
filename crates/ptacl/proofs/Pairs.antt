-- The list of a policy's pairs: there is one and only one, at most twice as long as the list of atoms, and within the limits at most 254.
use Prim.Native.Nat.{ℕ, ◌≤◌, ◌+◌, ◌*◌, suc}
use mathlib.Core.Path.{◌≡◌, refl, sym, ap, subst, ◌∙◌}
use mathlib.Core.Bool.{true, cond, ◌||◌, or_self_left}
use mathlib.Core.List.{List, [], ◌∷◌, ◌++◌, map}
use native.Mathlib.Omega.{arith}
use lib.ListN.{length, length-append, length-map}
use Rattle.ptacl.specs.Request.{Pair, same_pair, holds, below, below_head, ascending}
use Rattle.ptacl.specs.Term.{Sort, target, policy, Term, Policy, atom, deny, allow, targeted, not, default, and, or, nodes, atoms}
use Rattle.ptacl.specs.Pairs.{named, fresh, named_or_fresh, IsPairs}
use Rattle.ptacl.proofs.Bools.{either, and_left, and_right, and_both, or_swap, iff}
use Rattle.ptacl.proofs.Requests.{pair_equal, found, holds_append, holds_has, has_holds, holds_map, map_holds}
use Rattle.ptacl.proofs.Order.{below_else, head_below, cons_ascending, ascending_same}
use Rattle.ptacl.proofs.Count.{within_length}
use Rattle.ptacl.proofs.Fresh.{fresh_value, fresh_exists, fresh_one, fresh_small}

-- a pair put in its place, once
abbrev pub insert : Pair → List Pair → List Pair
insert x [] = x ∷ []
insert x (y ∷ ys) = cond (below x y) (x ∷ y ∷ ys) (cond (same_pair x y) (y ∷ ys) (y ∷ insert x ys))

insert_holds : (x : Pair) (ys : List Pair) (z : Pair) → holds (insert x ys) z ≡ (same_pair x z || holds ys z)
insert_holds x [] z = refl
insert_holds x (y ∷ ys) z = either (below x y) (λ a. rw a) (λ a. rw a (either (same_pair x y)
    (λ b. rw b (rw (pair_equal x y b) (sym (or_self_left (same_pair y z) (holds ys z)))))
    (λ b. rw b (ap (λ c. same_pair y z || c) (insert_holds x ys z) ∙ or_swap (same_pair y z) (same_pair x z) (holds ys z)))))

insert_ascending : (x : Pair) (ys : List Pair) → ascending ys ≡ true → ascending (insert x ys) ≡ true
insert_ascending x [] h = refl
insert_ascending x (y ∷ ys) h = either (below x y) (λ a. rw a (and_both a h)) (λ a. rw a (either (same_pair x y)
    (λ b. rw b h)
    (λ b. rw b (cons_ascending y (insert x ys)
    (λ z k. found x ys z (λ e. subst (λ w. below y w ≡ true) e (below_else x y a b)) (head_below y ys h z) (sym (insert_holds x ys z) ∙ k))
    (insert_ascending x ys (and_right (below_head y ys) h))))))

abbrev pub sort : List Pair → List Pair
sort [] = []
sort (x ∷ xs) = insert x (sort xs)

sort_holds : (l : List Pair) (z : Pair) → holds (sort l) z ≡ holds l z
sort_holds [] z = refl
sort_holds (x ∷ l) z = insert_holds x (sort l) z ∙ ap (λ b. same_pair x z || b) (sort_holds l z)

sort_ascending : (l : List Pair) → ascending (sort l) ≡ true
sort_ascending [] = refl
sort_ascending (x ∷ l) = insert_ascending x (sort l) (sort_ascending l)

-- the fresh pair of each atom's name; with the atoms, all pairs
abbrev pub fresh_pair : List Pair → Pair → Pair
fresh_pair ats y = (y.0, fresh_value ats y.0)

abbrev pub all_pairs : List Pair → List Pair
all_pairs ats = ats ++ map (fresh_pair ats) ats

fresh_holds : (ats : List Pair) (x : Pair) → holds (map (fresh_pair ats) ats) x ≡ fresh ats x
fresh_holds ats x = iff there back
  where
    there : holds (map (fresh_pair ats) ats) x ≡ true → fresh ats x ≡ true
    there h = let r = map_holds (fresh_pair ats) ats x h in
        subst (λ z. fresh ats z ≡ true) r.2 (fresh_exists ats r.0.0 (holds_has ats r.0 r.1))

    back : fresh ats x ≡ true → holds (map (fresh_pair ats) ats) x ≡ true
    back h =
        let u = and_left _ h in
        let r = has_holds ats x.0 u in
        let e = fresh_one ats x.0 (fresh_value ats x.0) x.1 (fresh_exists ats x.0 u) h in
        subst (λ v. holds (map (fresh_pair ats) ats) (x.0, v) ≡ true) e (holds_map (fresh_pair ats) ats (x.0, r.0) r.1)

pub all_holds : (ats : List Pair) (x : Pair) → holds (all_pairs ats) x ≡ named_or_fresh ats x
unfolding named_or_fresh
all_holds ats x = holds_append ats (map (fresh_pair ats) ats) x ∙ ap (λ b. named ats x || b) (fresh_holds ats x)

abbrev pub pairs_of : List Pair → List Pair
pairs_of ats = sort (all_pairs ats)

pub pairs_exist : (ats : List Pair) → IsPairs ats (pairs_of ats)
pairs_exist ats = record { ordered = sort_ascending (all_pairs ats); members = λ x. sort_holds (all_pairs ats) x ∙ all_holds ats x }

pub pairs_unique : {ats ps rs : List Pair} → IsPairs ats ps → IsPairs ats rs → ps ≡ rs
pairs_unique {ps} {rs} h k = ascending_same ps rs h.ordered k.ordered (λ x. h.members x ∙ sym (k.members x))

pub pairs_twice : {ats ps : List Pair} → IsPairs ats ps → length ps ≤ 2 * length ats
pairs_twice {ats} {ps} h =
    let l = within_length ps (all_pairs ats) h.ordered (record { up = λ x k. all_holds ats x ∙ (sym (h.members x) ∙ k) }) in
    omega (arith, length-append ats (map (fresh_pair ats) ats), length-map ats (fresh_pair ats))

-- of n nodes a target has at most (n + 1) / 2 atoms, a policy at most (n - 1) / 2
abbrev spare : Sort → ℕ
spare target = 0
spare policy = 2

atoms_few : {s : Sort} (t : Term s) → 2 * length (atoms t) + spare s ≤ suc (nodes t)
atoms_few (atom n v) = omega arith
atoms_few deny = omega arith
atoms_few allow = omega arith
atoms_few (targeted t p) = let h = atoms_few t in let k = atoms_few p in omega (arith, length-append (atoms t) (atoms p))
atoms_few (not t) = let h = atoms_few t in omega arith
atoms_few (default t) = let h = atoms_few t in omega arith
atoms_few (and t u) = let h = atoms_few t in let k = atoms_few u in omega (arith, length-append (atoms t) (atoms u))
atoms_few (or t u) = let h = atoms_few t in let k = atoms_few u in omega (arith, length-append (atoms t) (atoms u))

-- the limit of a file
module _ (p : Policy) (few : nodes p ≤ 255) where
  pub atoms_127 : length (atoms p) ≤ 127
  atoms_127 = let h = atoms_few p in omega arith

  pub pairs_254 : {ps : List Pair} → IsPairs (atoms p) ps → length ps ≤ 254
  pairs_254 h = let k = pairs_twice h in let l = atoms_127 in omega arith

  pub fresh_127 : (x : Pair) → fresh (atoms p) x ≡ true → x.1 ≤ 127
  fresh_127 x h = let k = fresh_small (atoms p) x h in let l = atoms_127 in omega arith
