-- What is due at a place of a policy file, and what stands there instead.
use Rattle.std.specs.Prelude.{ℕ, ◌-◌, ◌<◌, ◌≡◌, List, [], ◌∷◌, ◌++◌, length, get_or, take, drop}
use Rattle.ptacl.specs.Term.{Sort, policy, Node, tag_of, Shape, numbers, leaf, one, two, shape}
use Rattle.files.specs.ReadPolicy.{other_sort, Byte, tag, other, unknown, byte_at}

-- a term of a sort, or a byte of an atom's numbers
pub data Due : Type 0 where
  a_term : Sort → Due
  a_byte : Due

-- below a node of that shape, from left to right
abbrev pub due_below : {s : Sort} → Shape s → List Due
due_below (numbers f) = a_byte ∷ a_byte ∷ a_byte ∷ a_byte ∷ []
due_below (leaf t) = []
due_below {s} (one f) = a_term s ∷ []
due_below {s} (two r f) = a_term r ∷ a_term s ∷ []

-- where a term was due and then those: behind its byte what is below the node, then those; nothing, if the byte is no tag of the sort
abbrev pub behind_tag : {s : Sort} → List Due → Byte s → List Due
behind_tag ds (tag n) = due_below (shape n) ++ ds
behind_tag ds (other n) = []
behind_tag ds unknown = []

-- behind these bytes, the next first, where those were due before them
unfoldable pub due_behind : List Due → List ℕ → List Due
due_behind ds [] = ds
due_behind [] (x ∷ xs) = []
due_behind (a_byte ∷ ds) (x ∷ xs) = due_behind ds xs
due_behind (a_term s ∷ ds) (x ∷ xs) = due_behind (behind_tag ds (byte_at s x)) xs

-- at a place of a policy file: its body begins at 3 and is one policy
abbrev pub due_at : List ℕ → ℕ → List Due
due_at s place = due_behind (a_term policy ∷ []) (take (place - 3) (drop 3 s))

-- a byte stands there, and a term of that sort is due next
pub record DueNext (s : List ℕ) (place : ℕ) (sort : Sort) : Type 0 where
  pub inside : place < length s
  pub later : List Due
  pub is : due_at s place ≡ a_term sort ∷ later

-- the byte is a tag of the other sort
pub record Slip (s : List ℕ) (place : ℕ) : Type 0 where
  pub sort : Sort
  pub due : DueNext s place sort
  pub node : Node (other_sort sort)
  pub byte : get_or s place 0 ≡ tag_of node

-- it is a tag of neither
pub record Rubbish (s : List ℕ) (place : ℕ) : Type 0 where
  pub sort : Sort
  pub due : DueNext s place sort
  pub none : (r : Sort) (n : Node r) → get_or s place 0 ≡ tag_of n → ⊥
