-- Targets and policies, one family of terms over the two
-- sorts; their nodes, each known by its byte in a file.
use Rattle.std.specs.Prelude.{ℕ, ◌+◌, Bool, not as no, ◌&&◌, List, [], ◌∷◌, ◌++◌, eqb}
use Rattle.ptacl.specs.Request.{Pair}

pub data Sort : Type 0 where
  target policy : Sort

-- default is optional for a target, deny-by-default for a policy
pub data Term : Sort → Type 0 where
  atom : ℕ → ℕ → Term target
  deny allow : Term policy
  targeted : Term target → Term policy → Term policy
  not default : {s : Sort} → Term s → Term s
  and or : {s : Sort} → Term s → Term s → Term s

abbrev pub Target : Type 0
Target = Term target

abbrev pub Policy : Type 0
Policy = Term policy

pub data Node : Sort → Type 0 where
  an_atom : Node target
  a_deny an_allow a_targeted : Node policy
  a_not a_default an_and an_or : (s : Sort) → Node s

-- the table of bytes
abbrev pub tag_of : {s : Sort} → Node s → ℕ
tag_of an_atom = 0x10
tag_of (a_not target) = 0x11
tag_of (a_default target) = 0x12
tag_of (an_and target) = 0x13
tag_of (an_or target) = 0x14
tag_of a_deny = 0x20
tag_of an_allow = 0x21
tag_of a_targeted = 0x22
tag_of (a_not policy) = 0x23
tag_of (a_default policy) = 0x24
tag_of (an_and policy) = 0x25
tag_of (an_or policy) = 0x26

-- the table's column "followed by": what is below a node, and the term that it makes of that; of two terms the second is of the
-- node's own sort
pub data Shape (s : Sort) : Type 0 where
  numbers : (ℕ → ℕ → Term s) → Shape s
  leaf : Term s → Shape s
  one : (Term s → Term s) → Shape s
  two : (r : Sort) → (Term r → Term s → Term s) → Shape s

abbrev pub shape : {s : Sort} → Node s → Shape s
shape an_atom = numbers atom
shape a_deny = leaf deny
shape an_allow = leaf allow
shape a_targeted = two target targeted
shape (a_not s) = one (λ t. not t)
shape (a_default s) = one (λ t. default t)
shape (an_and s) = two s (λ t u. and t u)
shape (an_or s) = two s (λ t u. or t u)

-- what comes of a term, by the shape of its node, from what comes of the terms below it
pub record Steps (A : Type 0) : Type 0 where
  pub numbers : ℕ → ℕ → A
  pub leaf : (s : Sort) → Node s → A
  pub one : (s : Sort) → Node s → A → A
  pub two : (s : Sort) → Node s → A → A → A

abbrev pub fold : {A : Type 0} → Steps A → {s : Sort} → Term s → A
fold f (atom n v) = f.numbers n v
fold f deny = f.leaf policy a_deny
fold f allow = f.leaf policy an_allow
fold f (targeted t p) = f.two policy a_targeted (fold f t) (fold f p)
fold f (not {s = s} t) = f.one s (a_not s) (fold f t)
fold f (default {s = s} t) = f.one s (a_default s) (fold f t)
fold f (and {s = s} t u) = f.two s (an_and s) (fold f t) (fold f u)
fold f (or {s = s} t u) = f.two s (an_or s) (fold f t) (fold f u)

-- how many nodes it has
abbrev pub nodes : {s : Sort} → Term s → ℕ
nodes t = fold (record { numbers = λ n v. 1; leaf = λ s k. 1; one = λ s k m. 1 + m; two = λ s k m n. 1 + m + n }) t

-- the pairs of its atoms, from left to right
abbrev pub atoms : {s : Sort} → Term s → List Pair
atoms t = fold (record { numbers = λ n v. (n, v) ∷ []; leaf = λ s k. []; one = λ s k xs. xs; two = λ s k xs ys. xs ++ ys }) t

-- the test passes at every node
abbrev pub every : ((r : Sort) → Node r → Bool) → {s : Sort} → Term s → Bool
every f t = fold (record { numbers = λ n v. f target an_atom; leaf = f; one = λ s k x. f s k && x; two = λ s k x y. f s k && (x && y) }) t

-- it has no such node
abbrev pub without : {r s : Sort} → Node r → Term s → Bool
without k t = every (λ r n. no (eqb (tag_of k) (tag_of n))) t
