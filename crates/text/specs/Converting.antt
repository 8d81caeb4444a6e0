-- A term that is read in one form and written in another: what a function's result says of it.
use Rattle.std.specs.Prelude.{ℕ, ◌≡◌, List, ◌++◌, Result, Ok, Err}
use Rattle.ptacl.specs.Term.{Sort, Term}
use Rattle.files.specs.Refusal.{Read, accepted, refused}
use Rattle.files.specs.Prefix.{Form, spell, Head, node, stop, Reader, Subterms}
use Rattle.files.specs.Reading.{◌>>=◌, told}
use Rattle.files.specs.Tags.{sort_of, tag_named}
use Rattle.files.specs.declared.tag.Tag.{Tag}
use Rattle.files.specs.declared.tag.Shape.{Shape}

-- the node that a head is, by its tag, and the place behind it
abbrev pub met : {s : Sort} → Head s → Read (Tag × ℕ)
met (node n next) = accepted (tag_named n, next)
met (stop n at) = refused n at

-- a function's result, an error of which has a number and a place, is what reading gives
abbrev pub Gives : {X Y E : Type 0} → (E → ℕ) → (E → ℕ) → (X → Y) → Result X E → Read Y → Type 0
Gives number place view (Ok x) read = read ≡ accepted (view x)
Gives number place view (Err e) read = read ≡ refused (number e) (place e)

-- what is written when a term is written behind w
unfoldable pub behind : {F : Type 0} → Form F → F → List ℕ → {s : Sort} → Term s → List ℕ
behind f out w t = w ++ spell f out t

-- and when what is below a node of that shape is
module _ {E F : Type 0} (r : Reader E) (f : Form F) (sub : Subterms E) (s : Sort) (end : E) (out : F) (w : List ℕ) (at k : ℕ) where
  abbrev pub terms_behind : Shape → Read (List ℕ × ℕ × ℕ)
  terms_behind Shape.Numbers = told (λ x. x) (r.pair end at k) >>= λ x. accepted (w ++ f.pair x.0.0 x.0.1 out, x.1, x.2)
  terms_behind Shape.Leaf = accepted (w, at, k)
  terms_behind Shape.One = told (behind f out w) (sub s end at k)
  terms_behind (Shape.Two q) = told (behind f f.between w) (sub (sort_of q) r.form.between at k) >>= λ x. told (behind f out x.0) (sub s end x.1 x.2)
