-- What a node takes off the stack of values and puts there, by its tag.
use Rattle.std.specs.Prelude.{ℕ, ◌+◌, List, ◌∷◌, drop, get_or}
use Rattle.ptacl.specs.Request.{Pair, Request}
use Rattle.files.specs.Refusal.{dec16}
use Rattle.files.specs.Reading.{Steps}
use Rattle.files.specs.Tags.{tag_shape}
use Rattle.files.specs.declared.tag.Tag.{Tag}
use Rattle.files.specs.declared.tag.Shape.{Shape}
use Rattle.evaluate.specs.Worth.{worth_steps}

-- how many terms are right below a node, and how many bytes it has before them
abbrev pub terms_of : Shape → ℕ
terms_of Shape.Numbers = 0
terms_of Shape.Leaf = 0
terms_of Shape.One = 1
terms_of (Shape.Two r) = 2

abbrev pub bytes_of : Shape → ℕ
bytes_of Shape.Numbers = 5
bytes_of Shape.Leaf = 1
bytes_of Shape.One = 1
bytes_of (Shape.Two r) = 1

-- the stack behind a node, by what stood on it: what the terms right below come to, the first on top
abbrev pub shaped : Steps ℕ → Tag → Pair → List ℕ → Shape → List ℕ
shaped f tag x s Shape.Numbers = f.numbers x.0 x.1 ∷ s
shaped f tag x s Shape.Leaf = f.leaf tag ∷ s
shaped f tag x s Shape.One = f.one tag (get_or s 0 0) ∷ drop 1 s
shaped f tag x s (Shape.Two r) = f.two tag (get_or s 0 0) (get_or s 1 0) ∷ drop 2 s

-- so at a place of the bytes, for a request
abbrev pub taken : List ℕ → ℕ → Request → Tag → List ℕ → List ℕ
taken b at q tag s = shaped (worth_steps q) tag (dec16 b (at + 1), dec16 b (at + 3)) s (tag_shape tag)
