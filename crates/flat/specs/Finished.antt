-- What the stack holds after every step of the walk: the values of the subterms that are finished and not yet used.
use Rattle.std.specs.Prelude.{ℕ, ◌<◌, ◌≡◌, List, [], ◌∷◌, ◌++◌, map, length, drop}
use Rattle.ptacl.specs.Request.{Request}
use Rattle.ptacl.specs.Term.{Sort, Term}
use Rattle.files.specs.Encoding.{enc}
use Rattle.evaluate.specs.Worth.{worth}

-- a subterm of either sort; what it comes to, as the code of a set; the bytes of subterms, one behind the other
pub data Subterm : Type 0 where
  sub : {s : Sort} → Term s → Subterm

abbrev pub worth_of : Request → Subterm → ℕ
worth_of q (sub t) = worth q t

unfoldable pub enc_all : List Subterm → List ℕ
enc_all [] = []
enc_all (sub t ∷ ts) = enc t ++ enc_all ts

-- THE INVARIANT: when the node at a place has been taken, the bytes from there on are these subterms, one behind the other, and the stack
-- holds what they come to, in order, the first at its top
pub record Finished (b : List ℕ) (at : ℕ) (q : Request) (stack : List ℕ) : Type 0 where
  pub subterms : List Subterm
  pub bytes : drop at b ≡ enc_all subterms
  pub values : stack ≡ map (worth_of q) subterms

-- the subterm whose node stands at a place, and those behind it; there is room for its value
pub record Next (b : List ℕ) (at : ℕ) : Type 0 where
  pub sort : Sort
  pub term : Term sort
  pub rest : List Subterm
  pub bytes : drop at b ≡ enc term ++ enc_all rest
  pub room : length rest < 32
