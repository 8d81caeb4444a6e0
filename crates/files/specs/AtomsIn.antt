-- The atoms in the bytes of terms.
use Rattle.std.specs.Prelude.{ℕ, ◌==◌, if◌then◌else◌, List, [], ◌∷◌}
use Rattle.ptacl.specs.Request.{Pair}
use Rattle.files.specs.Tags.{pair_in}

-- the pairs of the atoms, from left to right: an atom's tag is followed by its four bytes, every other node is its tag alone
abbrev pub atoms_in : List ℕ → List Pair
atoms_in (t ∷ a ∷ b ∷ c ∷ d ∷ rest) = if t == 0x10 then pair_in (a ∷ b ∷ c ∷ d ∷ []) ∷ atoms_in rest else atoms_in (a ∷ b ∷ c ∷ d ∷ rest)
atoms_in short = []
