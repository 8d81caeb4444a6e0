-- Reading a term, by reading its node and the terms right below it: for whatever is told of a term that comes of its node and of what is
-- told of the terms below.
use Prim.Native.Nat.{ℕ, ◌+◌, ◌-◌}
use mathlib.Core.Path.{◌≡◌, refl, ap, ◌∙◌}
use mathlib.Core.List.{List}
use native.Mathlib.Omega.{arith}
use lib.ListN.{length, length-drop}
use Rattle.ptacl.specs.Request.{Pair}
use Rattle.ptacl.specs.Term.{Sort, target, policy, Term, Node, an_atom, a_deny, an_allow, a_targeted, a_not, a_default, an_and, an_or, Shape, numbers, leaf, one, two, shape}
use Rattle.files.specs.Encoding.{bytes}
use Rattle.files.specs.Refusal.{Read, accepted, refused}
use Rattle.files.specs.Prefix.{Head, node, stop, Scan, done, fault, and_then, Subterms, below, body, scan}
use Rattle.files.specs.ReadPolicy.{head_at, pair_at, in_bytes}
use Rattle.files.specs.Tags.{sort_of, tag_named, tag_shape}
use Rattle.files.specs.Reading.{◌>>=◌, node_in, told, nothing, Steps, shaped_below, told_below, terms_below}
use Rattle.files.specs.declared.tag.Tag.{Tag}
use Rattle.files.specs.declared.tag.Shape.{Shape as ShapeC}
use Rattle.files.proofs.Prefix.{Told, scan_at}
use Rattle.files.proofs.PolicySteps.{Faulty, byte_laws}

module _ {B : Type 0} (f : (s : Sort) → Term s → B) (steps : Steps B) where
  -- what is told of a node's term comes of its node
  abbrev pub Comes : {s : Sort} → Node s → Shape s → Type 0
  Comes {s} n (numbers g) = (x y : ℕ) → f s (g x y) ≡ steps.numbers x y
  Comes {s} n (leaf t) = f s t ≡ steps.leaf (tag_named n)
  Comes {s} n (one g) = (t : Term s) → f s (g t) ≡ steps.one (tag_named n) (f s t)
  Comes {s} n (two r g) = (t : Term r) (u : Term s) → f s (g t u) ≡ steps.two (tag_named n) (f r t) (f s u)

  told_numbers : {s : Sort} (g : ℕ → ℕ → Term s) (x : Scan Pair) → ((n v : ℕ) → f s (g n v) ≡ steps.numbers n v)
      → told (f s) (and_then x (λ y a k. done (g y.0 y.1) a k)) ≡ told (λ y. steps.numbers y.0 y.1) x
  told_numbers g (done y a k) e = rw (e y.0 y.1)
  told_numbers g (fault n p) e = refl

  told_one : {s : Sort} (h : B → B) (g : Term s → Term s) (x : Scan (Term s)) → ((t : Term s) → f s (g t) ≡ h (f s t))
      → told (f s) (and_then x (λ t a k. done (g t) a k)) ≡ (told (f s) x >>= λ y. accepted (h y.0, y.1, y.2))
  told_one h g (done t a k) e = rw (e t)
  told_one h g (fault n p) e = refl

  told_two : {r s : Sort} (h : B → B → B) (g : Term r → Term s → Term s) (x : Scan (Term r)) (y : ℕ → ℕ → Scan (Term s))
      → ((t : Term r) (u : Term s) → f s (g t u) ≡ h (f r t) (f s u))
      → told (f s) (and_then x (λ t a k. and_then (y a k) (λ u c m. done (g t u) c m)))
      ≡ (told (f r) x >>= λ z. told (f s) (y z.1 z.2) >>= λ w. accepted (h z.0 w.0, w.1, w.2))
  told_two h g (done t a k) y e = told_one (h (f _ t)) (g t) (y a k) (e t)
  told_two h g (fault n p) y e = refl

  module _ (law : (s : Sort) (n : Node s) → Comes n (shape n)) (b : List ℕ) (sub : Subterms (Unit {0})) (at k : ℕ) where
    told_node : {s : Sort} (n : Node s)
        → told (f s) (below (in_bytes 255 b) sub tt at k (shape n)) ≡ told_below steps (tag_named n) s b (λ r a m. told (f r) (sub r tt a m)) at k
    unfolding below
    told_node an_atom = told_numbers _ (pair_at b at k) (law target an_atom)
    told_node a_deny = rw (law policy a_deny)
    told_node an_allow = rw (law policy an_allow)
    told_node a_targeted = told_two _ _ (sub target tt at k) (sub policy tt) (law policy a_targeted)
    told_node (a_not target) = told_one _ _ (sub target tt at k) (law target (a_not target))
    told_node (a_not policy) = told_one _ _ (sub policy tt at k) (law policy (a_not policy))
    told_node (a_default target) = told_one _ _ (sub target tt at k) (law target (a_default target))
    told_node (a_default policy) = told_one _ _ (sub policy tt at k) (law policy (a_default policy))
    told_node (an_and target) = told_two _ _ (sub target tt at k) (sub target tt) (law target (an_and target))
    told_node (an_and policy) = told_two _ _ (sub policy tt at k) (sub policy tt) (law policy (an_and policy))
    told_node (an_or target) = told_two _ _ (sub target tt at k) (sub target tt) (law target (an_or target))
    told_node (an_or policy) = told_two _ _ (sub policy tt at k) (sub policy tt) (law policy (an_or policy))

  module _ (law : (s : Sort) (n : Node s) → Comes n (shape n)) (b : List ℕ) (s : Sort) (left at k : ℕ) where
    pub told_more : told (f s) (scan (in_bytes 255 b) left s tt at k)
        ≡ (node_in (head_at 255 b s left at k) >>= λ tag. told_below steps tag s b (λ r a m. told (f r) (scan (in_bytes 255 b) (left - 1) r tt a m)) (at + 1) (k + 1))
    unfolding body
    told_more =
        ap (told (f s)) (scan_at (in_bytes 255 b) 255 b (byte_laws 255 b) left tt at k (head_at 255 b s left at k) refl)
        ∙ go (head_at 255 b s left at k) ((byte_laws 255 b).head_told s left tt at k)
      where
        go : (h : Head s) → Told bytes 255 b (Faulty b) left tt at k h
            → told (f s) (body (in_bytes 255 b) (scan (in_bytes 255 b) (left - 1)) tt k h)
            ≡ (node_in h >>= λ tag. told_below steps tag s b (λ r a m. told (f r) (scan (in_bytes 255 b) (left - 1) r tt a m)) (at + 1) (k + 1))
        go (node n next) w =
            let l = ap length w.bytes in
            let e : next ≡ at + 1 = omega (arith, w.inside, length-drop at b, length-drop next b) in
            rw e (told_node law b (scan (in_bytes 255 b) (left - 1)) (at + 1) (k + 1) n)
        go (stop n p) w = refl

-- where nothing is told
steps_of_nothing : Steps (Unit {0})
steps_of_nothing = record { numbers = λ n v. tt; leaf = λ tag. tt; one = λ tag x. tt; two = λ tag x y. tt }

no_more : (x : Read (Unit {0} × ℕ × ℕ)) → (x >>= λ y. accepted (tt, y.1, y.2)) ≡ x
no_more (accepted y) = refl
no_more (refused n p) = refl

no_below : (g : ShapeC) (tag : Tag) (s : Sort) (b : List ℕ) (sub : Sort → ℕ → ℕ → Read (Unit {0} × ℕ × ℕ)) (at k : ℕ)
    → shaped_below steps_of_nothing tag s b sub at k g ≡ terms_below g s b sub at k
no_below ShapeC.Numbers tag s b sub at k = refl
no_below ShapeC.Leaf tag s b sub at k = refl
no_below ShapeC.One tag s b sub at k = no_more (sub s at k)
no_below (ShapeC.Two r) tag s b sub at k = go (sub (sort_of r) at k)
  where
    go : (x : Read (Unit {0} × ℕ × ℕ)) → (x >>= λ y. sub s y.1 y.2 >>= λ z. accepted (tt, z.1, z.2)) ≡ (x >>= λ y. sub s y.1 y.2)
    go (accepted y) = no_more (sub s y.1 y.2)
    go (refused n p) = refl

law_of_nothing : (s : Sort) (n : Node s) → Comes (λ s t. tt) steps_of_nothing n (shape n)
law_of_nothing target an_atom = λ n v. refl
law_of_nothing policy a_deny = refl
law_of_nothing policy an_allow = refl
law_of_nothing policy a_targeted = λ t u. refl
law_of_nothing _ (a_not s) = λ t. refl
law_of_nothing _ (a_default s) = λ t. refl
law_of_nothing _ (an_and s) = λ t u. refl
law_of_nothing _ (an_or s) = λ t u. refl

pub term_more : (b : List ℕ) (s : Sort) (left at k : ℕ) → told nothing (scan (in_bytes 255 b) left s tt at k)
    ≡ (node_in (head_at 255 b s left at k) >>= λ tag. terms_below (tag_shape tag) s b (λ r a m. told nothing (scan (in_bytes 255 b) (left - 1) r tt a m)) (at + 1) (k + 1))
term_more b s left at k = told_more (λ s t. tt) steps_of_nothing law_of_nothing b s left at k ∙ go (node_in (head_at 255 b s left at k))
  where
    go : (x : Read Tag)
        → (x >>= λ tag. told_below steps_of_nothing tag s b (λ r a m. told nothing (scan (in_bytes 255 b) (left - 1) r tt a m)) (at + 1) (k + 1))
        ≡ (x >>= λ tag. terms_below (tag_shape tag) s b (λ r a m. told nothing (scan (in_bytes 255 b) (left - 1) r tt a m)) (at + 1) (k + 1))
    go (accepted tag) = no_below (tag_shape tag) tag s b _ (at + 1) (k + 1)
    go (refused n p) = refl
