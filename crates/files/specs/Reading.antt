-- Where a reader stands, and what its steps say of the definitions' readings.
use Rattle.std.specs.Prelude.{ℕ, ◌≡◌, cond, ltb, List, length, Result, Ok, Err}
use Rattle.ptacl.specs.Term.{Sort, Term}
use Rattle.files.specs.Refusal.{Read, accepted, refused}
use Rattle.files.specs.Prefix.{Head, node, stop, Scan, done, fault, scan}
use Rattle.files.specs.ReadPolicy.{pair_at, in_bytes}
use Rattle.files.specs.Faults.{fault_number, WholeFile}
use Rattle.files.specs.Tags.{tag_named, tag_shape, sort_of}
use Rattle.files.specs.declared.fault.Fault.{Fault}
use Rattle.files.specs.declared.tag.Tag.{Tag}
use Rattle.files.specs.declared.tag.Shape.{Shape}

-- the bytes of the file, the place in them, and the nodes read up to there
pub record Place : Type 0 where
  pub bytes : List ℕ
  pub at : ℕ
  pub nodes : ℕ

-- a node's limits are kept, or are told by the number of the fault
abbrev pub Limits : Result (Unit {0}) Fault → ℕ → Type 0
Limits (Ok x) number = number ≡ 0
Limits (Err f) number = number ≡ fault_number f

infixl 10 ◌>>=◌
abbrev pub ◌>>=◌ : {A B : Type 0} → Read A → (A → Read B) → Read B
(accepted x) >>= f = f x
(refused n at) >>= f = refused n at

abbrev pub read_map : {A B : Type 0} → (A → B) → Read A → Read B
read_map f (accepted x) = accepted (f x)
read_map f (refused n at) = refused n at

-- the node that a head is, by its tag
abbrev pub node_in : {s : Sort} → Head s → Read Tag
node_in (node n next) = accepted (tag_named n)
node_in (stop n at) = refused n at

-- what f tells of what was read, the place behind it, and the nodes up to there
abbrev pub told : {A B : Type 0} → (A → B) → Scan A → Read (B × ℕ × ℕ)
told f (done a next nodes) = accepted (f a, next, nodes)
told f (fault n at) = refused n at

-- nothing of a term
abbrev pub nothing : {A : Type 0} → A → Unit {0}
nothing a = tt

-- a function's result, a fault of which stands at a place, is what reading gives
abbrev pub StandsAt : {X Y : Type 0} → (X → Y) → Result X Fault → ℕ → Read Y → Type 0
StandsAt view (Ok x) at read = read ≡ accepted (view x)
StandsAt view (Err f) at read = read ≡ refused (fault_number f) at

-- the reader has gone on to what reading gives
abbrev pub GoesOn : {X Y : Type 0} → (X → Y) → Result X Fault → Place → Place → Read (Y × ℕ × ℕ) → Type 0
GoesOn view (Ok x) old new read = (read ≡ accepted (view x, new.at, new.nodes)) × (new.bytes ≡ old.bytes)
GoesOn view (Err f) old new read = (read ≡ refused (fault_number f) new.at) × (new.bytes ≡ old.bytes)

-- the reader has gone on to what is told by f of a term that is due there, with so much depth left
abbrev pub TellsTerm : {X Y : Type 0} {s : Sort} → (X → Y) → (Term s → Y) → ℕ → Result X Fault → Place → Place → Type 0
TellsTerm {s = s} view f left result old new = GoesOn view result old new (told f (scan (in_bytes 255 old.bytes) left s tt old.at old.nodes))

-- it stands at the body of a whole file
pub record Opened (file : List ℕ) (p : Place) : Type 0 where
  pub whole : WholeFile file
  pub start : p ≡ record { bytes = file; at = 3; nodes = 0 }

-- the file ends there
abbrev pub ended : Place → Read (Unit {0})
ended p = cond (ltb p.at (length p.bytes)) (refused 8 p.at) (accepted tt)

-- what is told of a term, by its node and by what is told of the terms below
pub record Steps (B : Type 0) : Type 0 where
  pub numbers : ℕ → ℕ → B
  pub leaf : Tag → B
  pub one : Tag → B → B
  pub two : Tag → B → B → B

-- so behind a node's tag, by a reading of the terms there
abbrev pub shaped_below : {B : Type 0} → Steps B → Tag → Sort → List ℕ → (Sort → ℕ → ℕ → Read (B × ℕ × ℕ)) → ℕ → ℕ → Shape → Read (B × ℕ × ℕ)
shaped_below f tag s b sub at k Shape.Numbers = told (λ x. f.numbers x.0 x.1) (pair_at b at k)
shaped_below f tag s b sub at k Shape.Leaf = accepted (f.leaf tag, at, k)
shaped_below f tag s b sub at k Shape.One = sub s at k >>= λ x. accepted (f.one tag x.0, x.1, x.2)
shaped_below f tag s b sub at k (Shape.Two r) = sub (sort_of r) at k >>= λ x. sub s x.1 x.2 >>= λ y. accepted (f.two tag x.0 y.0, y.1, y.2)

abbrev pub told_below : {B : Type 0} → Steps B → Tag → Sort → List ℕ → (Sort → ℕ → ℕ → Read (B × ℕ × ℕ)) → ℕ → ℕ → Read (B × ℕ × ℕ)
told_below f tag s b sub at k = shaped_below f tag s b sub at k (tag_shape tag)

-- and where nothing is told but where the terms end
abbrev pub terms_below : Shape → Sort → List ℕ → (Sort → ℕ → ℕ → Read (Unit {0} × ℕ × ℕ)) → ℕ → ℕ → Read (Unit {0} × ℕ × ℕ)
terms_below Shape.Numbers s b sub at k = told nothing (pair_at b at k)
terms_below Shape.Leaf s b sub at k = accepted (tt, at, k)
terms_below Shape.One s b sub at k = sub s at k
terms_below (Shape.Two r) s b sub at k = sub (sort_of r) at k >>= λ x. sub s x.1 x.2
