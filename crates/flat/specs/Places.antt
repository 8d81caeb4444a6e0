-- The read nodes, by their places. An atom's numbers can spell nodes, so that bytes alone do not tell where nodes stand.
use Rattle.std.specs.Prelude.{ℕ, zero, suc, ◌+◌, ◌<◌, ◌≡◌, cond, List, eqb, length, get_or}
use Rattle.ptacl.specs.Term.{Policy, an_atom, tag_of, nodes}
use Rattle.files.specs.Encoding.{IsPolicy}

-- the place behind the node at a place: an atom has five bytes, every other node one
abbrev pub behind : List ℕ → ℕ → ℕ
behind b at = at + cond (eqb (get_or b at 0) (tag_of an_atom)) 5 1

-- the places of a file's nodes, from left to right; the first stands behind the frame
abbrev pub place_of : List ℕ → ℕ → ℕ
place_of b zero = 3
place_of b (suc k) = behind b (place_of b k)

-- these are the places of the file's first nodes, so many
pub record PlacesTo (b : List ℕ) (count : ℕ) (places : List ℕ) : Type 0 where
  pub counted : length places ≡ count
  pub place : (k : ℕ) → k < length places → get_or places k 0 ≡ place_of b k

-- these are the places of the nodes of the policy whose file it is
pub record Places (b : List ℕ) (p : Policy) (places : List ℕ) : Type 0 where
  pub counted : length places ≡ nodes p
  pub place : (k : ℕ) → k < length places → get_or places k 0 ≡ place_of b k

-- it is the file of a policy within the limits, and these are the places of its nodes
pub record Noted (b places : List ℕ) : Type 0 where
  pub term : Policy
  pub file : IsPolicy b term
  pub nodes : Places b term places
