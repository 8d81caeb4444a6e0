-- Exposures, up to the first. Where a set counts as allowed is a reading, and which requests are
-- compared is a relation; this page's are strict, and one request within another.
use Rattle.std.specs.Prelude.{ℕ, ◌-◌, ◌/◌, ◌%◌, ◌^◌, ◌<◌, ◌≡◌, Bool, true, false, cond, List, [], ◌∷◌, eqb, length}
use Rattle.ptacl.specs.Value.{v1}
use Rattle.ptacl.specs.Values.{Values, only}
use Rattle.ptacl.specs.Request.{Pair, Request, Within}
use Rattle.ptacl.specs.Term.{Policy}
use Rattle.ptacl.specs.Meaning.{eval}

abbrev pub Reading : Type 0
Reading = Values → Bool

-- exactly {1}
abbrev pub strict : Reading
strict = only v1

abbrev pub Comparison : Type 1
Comparison = Request → Request → Type 0

-- no requests q' and q that are compared exist with q' allowed and q not
pub record ResistantBy (compared : Comparison) (g : Reading) (p : Policy) : Type 0 where
  pub stays : {q' q : Request} → compared q' q → g (eval p q') ≡ true → g (eval p q) ≡ true

-- no requests q' within q exist with q' at {1} and q not at {1}
abbrev pub Resistant : Policy → Type 0
Resistant p = ResistantBy Within strict p

abbrev pub bit : ℕ → ℕ → Bool
bit m i = eqb (m / 2 ^ i % 2) 1

-- the subset numbered m holds pair i exactly if bit i of m is 1
abbrev pub subset : {A : Type 0} → List A → ℕ → List A
subset [] m = []
subset (x ∷ ps) m = cond (eqb (m % 2) 1) (x ∷ subset ps (m / 2)) (subset ps (m / 2))

-- what may be taken from a subset: here pair i if bit i of m is 1, which leaves m less 2^i
pub record Removal : Type 0 where
  pub from : ℕ → ℕ → Bool
  pub less : ℕ → ℕ → ℕ

abbrev pub one_pair : Removal
one_pair = record { from = bit; less = λ m i. m - 2 ^ i }

-- the subset m is not allowed, i may be taken from it, and what is left is allowed
pub record ExposureBy (g : Reading) (r : Removal) (p : Policy) (ps : List Pair) (m i : ℕ) : Type 0 where
  pub numbered : m < 2 ^ length ps
  pub larger : g (eval p (subset ps m)) ≡ false
  pub taken : r.from m i ≡ true
  pub smaller : g (eval p (subset ps (r.less m i))) ≡ true

abbrev pub Exposure : Policy → List Pair → ℕ → ℕ → Type 0
Exposure p ps = ExposureBy strict one_pair p ps

-- the smallest m, and for it the smallest i
pub record First (E : ℕ → ℕ → Type 0) (m i : ℕ) : Type 0 where
  pub hit : E m i
  pub earlier : {m' i' : ℕ} → m' < m → E m' i' → ⊥
  pub before : {i' : ℕ} → i' < i → E m i' → ⊥
