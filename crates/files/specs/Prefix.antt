-- A term in prefix order. How it is written, and how it is read from left to right up to the first refusal, for
-- every form of writing. E tells what follows a term, which some forms write too; bytes do not.
use Rattle.std.specs.Prelude.{ℕ, zero, suc, ◌+◌, List, ◌++◌}
use Rattle.ptacl.specs.Request.{Pair}
use Rattle.ptacl.specs.Term.{Sort, target, Term, Node, an_atom, Shape, numbers, leaf, one, two, shape, fold}

-- how a node and an atom's numbers are written, by what follows the term; between two terms stands `between`
pub record Form (E : Type 0) : Type 0 where
  pub between : E
  pub mark : (s : Sort) → Node s → E → List ℕ
  pub pair : ℕ → ℕ → E → List ℕ

unfoldable pub spell : {E : Type 0} → Form E → E → {s : Sort} → Term s → List ℕ
spell f end t =
    fold (record {
      numbers = λ n v e. f.mark target an_atom e ++ f.pair n v e;
      leaf = f.mark;
      one = λ s k x e. f.mark s k e ++ x e;
      two = λ s k x y e. f.mark s k e ++ (x f.between ++ y e);
    }) t end

-- what stands where a node is due: a node within the limits and the place behind it, or a refusal
pub data Head (s : Sort) : Type 0 where
  node : Node s → ℕ → Head s
  stop : ℕ → ℕ → Head s

-- what was read, with the place behind it and the number of nodes up to there, or a refusal
pub data Scan (A : Type 0) : Type 0 where
  done : A → ℕ → ℕ → Scan A
  fault : ℕ → ℕ → Scan A

abbrev pub and_then : {A B : Type 0} → Scan A → (A → ℕ → ℕ → Scan B) → Scan B
and_then (done a next nodes) f = f a next nodes
and_then (fault number place) f = fault number place

-- how a form is read: what stands where a node of a sort is due, by the depth left, and where an atom's numbers are; both by what is to
-- follow, the place, and the nodes up to there
pub record Reader (E : Type 0) : Type 0 where
  pub form : Form E
  pub head : (s : Sort) → ℕ → E → ℕ → ℕ → Head s
  pub pair : E → ℕ → ℕ → Scan Pair

abbrev pub Subterms : Type 0 → Type 0
Subterms E = (s : Sort) → E → ℕ → ℕ → Scan (Term s)

-- what is below a node of that shape, from a place on, where `sub` reads a term one deeper
unfoldable pub below : {E : Type 0} → Reader E → Subterms E → E → ℕ → ℕ → {s : Sort} → Shape s → Scan (Term s)
below r sub end at nodes (numbers f) = and_then (r.pair end at nodes) (λ x a k. done (f x.0 x.1) a k)
below r sub end at nodes (leaf t) = done t at nodes
below r sub end at nodes {s} (one f) = and_then (sub s end at nodes) (λ t a k. done (f t) a k)
below r sub end at nodes {s} (two q f) =
    and_then (sub q r.form.between at nodes) (λ t a k. and_then (sub s end a k) (λ u c m. done (f t u) c m))

unfoldable pub body : {E : Type 0} → Reader E → Subterms E → E → ℕ → {s : Sort} → Head s → Scan (Term s)
body r sub end nodes (stop number place) = fault number place
body r sub end nodes (node n next) = below r sub end next (nodes + 1) (shape n)

-- a term of a sort at a place, with that much depth left and that many nodes before it
unfoldable pub scan : {E : Type 0} → Reader E → ℕ → (s : Sort) → E → ℕ → ℕ → Scan (Term s)
scan r zero s end at nodes = body r (λ q e a k. fault 6 a) end nodes (r.head s 0 end at nodes)
scan r (suc left) s end at nodes = body r (scan r left) end nodes (r.head s (suc left) end at nodes)
