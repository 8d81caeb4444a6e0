-- A term by its root: the node there, and the subterms right below it. Subterms one behind the other are told by their bytes.
use Prim.Native.Nat.{ℕ, ◌+◌, ◌≤◌, max}
use mathlib.Core.Path.{◌≡◌, refl, sym, ap, ap₂, subst, ◌∙◌}
use mathlib.Core.Bool.{cond}
use mathlib.Core.List.{List, [], ◌∷◌, ◌++◌, append_assoc}
use native.Mathlib.Omega.{arith}
use lib.Dec.{eqb}
use lib.ListN.{length, drop, get_or}
use borrow.Author.Tests.{eqb-true}
use Rattle.ptacl.specs.Term.{Sort, Term, atom, deny, allow, targeted, not, default, and, or, nodes}
use Rattle.ptacl.specs.Term.{Node, an_atom, a_deny, an_allow, a_targeted, a_not, a_default, an_and, an_or, tag_of, Shape, numbers, leaf, one, two, shape}
use Rattle.ptacl.proofs.Finite.{at_node, tag_sort}
use Rattle.files.specs.Encoding.{bytes, enc, depth}
use Rattle.files.proofs.Prefix.{Adds, adds}
use Rattle.files.proofs.PolicyComplete.{enc_prefix_free}
use Rattle.flat.specs.Places.{behind}
use Rattle.flat.specs.Finished.{Subterm, sub, enc_all}

-- the term that a node of that shape makes of these subterms
abbrev pub Built : {s : Sort} → Shape s → Term s → List Subterm → Type 0
Built (numbers f) t ps = (n : ℕ) × (v : ℕ) × (t ≡ f n v) × (ps ≡ [])
Built (leaf u) t ps = (t ≡ u) × (ps ≡ [])
Built {s} (one f) t ps = (u : Term s) × (t ≡ f u) × (ps ≡ sub u ∷ [])
Built {s} (two r f) t ps = (u : Term r) × (w : Term s) × (t ≡ f u w) × (ps ≡ sub u ∷ sub w ∷ [])

pub record Root {s : Sort} (t : Term s) : Type 0 where
  pub node : Node s
  pub parts : List Subterm
  pub built : Built (shape node) t parts

abbrev pub root : {s : Sort} (t : Term s) → Root t
root (atom n v) = record { node = an_atom; parts = []; built = (n, v, refl, refl) }
root deny = record { node = a_deny; parts = []; built = (refl, refl) }
root allow = record { node = an_allow; parts = []; built = (refl, refl) }
root (targeted t p) = record { node = a_targeted; parts = sub t ∷ sub p ∷ []; built = (t, p, refl, refl) }
root (not {s = s} t) = record { node = a_not s; parts = sub t ∷ []; built = (t, refl, refl) }
root (default {s = s} t) = record { node = a_default s; parts = sub t ∷ []; built = (t, refl, refl) }
root (and {s = s} t u) = record { node = an_and s; parts = sub t ∷ sub u ∷ []; built = (t, u, refl, refl) }
root (or {s = s} t u) = record { node = an_or s; parts = sub t ∷ sub u ∷ []; built = (t, u, refl, refl) }

-- how many bytes a node has before what is below it
abbrev pub width_of : {s : Sort} → Shape s → ℕ
width_of (numbers f) = 5
width_of (leaf t) = 1
width_of (one f) = 1
width_of (two r f) = 1

-- the place behind a node, which is known by its byte
pub behind_node : {s : Sort} (k : Node s) (b : List ℕ) (at : ℕ) → get_or b at 0 ≡ tag_of k → behind b at ≡ at + width_of (shape k)
behind_node k b at e =
    ap (λ x. at + cond (eqb x (tag_of an_atom)) 5 1) e
    ∙ ap (λ n. at + n) (eqb-true _ _ (at_node (λ s n. eqb (cond (eqb (tag_of n) (tag_of an_atom)) 5 1) (width_of (shape n))) refl k))

-- how many nodes they have
abbrev pub nodes_all : List Subterm → ℕ
nodes_all [] = 0
nodes_all (sub t ∷ f) = nodes t + nodes_all f

-- how high the stack may yet have been: every subterm stands on those to its right
abbrev pub highest : List Subterm → ℕ
highest [] = 0
highest (sub t ∷ f) = max (depth t + length f) (highest f)

-- what the root tells of the term's bytes, nodes and depth
module _ {s : Sort} (k : Node s) (t : Term s) (ps : List Subterm) where
  starts_by : (g : Shape s) → Adds bytes k g → Built g t ps → (xs : List ℕ) × (enc t ≡ tag_of k ∷ xs)
  unfolding enc
  starts_by (numbers f) law b = (_, ap (λ z. enc z) b.2 ∙ (law b.0 b.1 tt).0)
  starts_by (leaf u) law b = (_, ap (λ z. enc z) b.0 ∙ (law tt).0)
  starts_by (one f) law b = (_, ap (λ z. enc z) b.1 ∙ (law b.0 tt).0)
  starts_by (two r f) law b = (_, ap (λ z. enc z) b.2 ∙ (law b.0 b.1 tt).0)

  opens_by : (g : Shape s) → Adds bytes k g → Built g t ps → (f : List Subterm) → drop (width_of g) (enc t ++ enc_all f) ≡ enc_all (ps ++ f)
  unfolding enc enc_all
  opens_by (numbers h) law b f = rw (b.2, b.3, (law b.0 b.1 tt).0)
  opens_by (leaf u) law b f = rw (b.0, b.1, (law tt).0)
  opens_by (one h) law b f = rw (b.1, b.2, (law b.0 tt).0)
  opens_by (two r h) law b f = rw (b.2, b.3, (law b.0 b.1 tt).0) (append_assoc (enc b.0) (enc b.1) (enc_all f))

  nodes_by : (g : Shape s) → Adds bytes k g → Built g t ps → nodes t ≡ 1 + nodes_all ps
  nodes_by (numbers h) law b = rw (b.2, b.3) (law b.0 b.1 tt).1
  nodes_by (leaf u) law b = rw (b.0, b.1) (law tt).1
  nodes_by (one h) law b = rw (b.1, b.2) (omega (arith, (law b.0 tt).1))
  nodes_by (two r h) law b = rw (b.2, b.3) (omega (arith, (law b.0 b.1 tt).1))

  depth_by : (g : Shape s) → Adds bytes k g → Built g t ps → 1 ≤ depth t
  depth_by (numbers h) law b = rw b.2 (omega (arith, (law b.0 b.1 tt).2))
  depth_by (leaf u) law b = rw b.0 (omega (arith, (law tt).2))
  depth_by (one h) law b = rw b.1 (omega (arith, (law b.0 tt).2))
  depth_by (two r h) law b = rw b.2 (omega (arith, (law b.0 b.1 tt).2))

  highest_by : (g : Shape s) → Adds bytes k g → Built g t ps → (f : List Subterm) → highest (ps ++ f) ≤ highest (sub t ∷ f)
  highest_by (numbers h) law b f = rw b.3 (omega arith)
  highest_by (leaf u) law b f = rw b.1 (omega arith)
  highest_by (one h) law b f = rw (b.1, b.2) (omega (arith, (law b.0 tt).2))
  highest_by (two r h) law b f = rw (b.2, b.3) (omega (arith, (law b.0 b.1 tt).2))

module _ {s : Sort} (t : Term s) where
  abbrev its : Node s
  its = (root t).node

  pub starts : (xs : List ℕ) × (enc t ≡ tag_of (root t).node ∷ xs)
  starts = starts_by its t (root t).parts (shape its) (adds bytes its) (root t).built

  pub opens : (f : List Subterm) → drop (width_of (shape (root t).node)) (enc t ++ enc_all f) ≡ enc_all ((root t).parts ++ f)
  opens = opens_by its t (root t).parts (shape its) (adds bytes its) (root t).built

  pub root_nodes : nodes t ≡ 1 + nodes_all (root t).parts
  root_nodes = nodes_by its t (root t).parts (shape its) (adds bytes its) (root t).built

  pub root_depth : 1 ≤ depth t
  root_depth = depth_by its t (root t).parts (shape its) (adds bytes its) (root t).built

  pub root_highest : (f : List Subterm) → highest ((root t).parts ++ f) ≤ highest (sub t ∷ f)
  root_highest = highest_by its t (root t).parts (shape its) (adds bytes its) (root t).built

-- subterms one behind the other are told by their bytes: the first byte tells the sort, and no encoding begins another
first_sort : {r s : Sort} (t : Term r) (u : Term s) (xs ys : List ℕ) → enc t ++ xs ≡ enc u ++ ys → r ≡ s
first_sort t u xs ys e =
    tag_sort (root t).node (root u).node
    (sym (ap (λ z. get_or (z ++ xs) 0 0) (starts t).1) ∙ ap (λ z. get_or z 0 0) e ∙ ap (λ z. get_or (z ++ ys) 0 0) (starts u).1)

pub same_row : (f g : List Subterm) → enc_all f ≡ enc_all g → f ≡ g
unfolding enc_all
same_row [] [] e = refl
same_row [] (sub u ∷ g) e = absurd (omega (arith, ap length e, ap (λ z. length (z ++ enc_all g)) (starts u).1))
same_row (sub t ∷ f) [] e = absurd (omega (arith, ap length e, ap (λ z. length (z ++ enc_all f)) (starts t).1))
same_row (sub {s = r} t ∷ f) (sub {s = s} u ∷ g) e = go s (first_sort t u (enc_all f) (enc_all g) e) u e (same_row f g)
  where
    one_sort : (u : Term r) → enc t ++ enc_all f ≡ enc u ++ enc_all g → (enc_all f ≡ enc_all g → f ≡ g) → ◌≡◌ {A = List Subterm} (sub t ∷ f) (sub u ∷ g)
    one_sort u e h = let x = enc_prefix_free t u (enc_all f) (enc_all g) e in ap₂ (λ (z : Term r) (zs : List Subterm). sub z ∷ zs) x.0 (h x.1)

    go : (s : Sort) → r ≡ s → (u : Term s) → enc t ++ enc_all f ≡ enc u ++ enc_all g → (enc_all f ≡ enc_all g → f ≡ g) → ◌≡◌ {A = List Subterm} (sub t ∷ f) (sub u ∷ g)
    go s p = subst (λ s. (u : Term s) → enc t ++ enc_all f ≡ enc u ++ enc_all g → (enc_all f ≡ enc_all g → f ≡ g) → ◌≡◌ {A = List Subterm} (sub t ∷ f) (sub u ∷ g)) p one_sort
