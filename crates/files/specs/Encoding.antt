-- The bytes of a term, a policy file, a request file, and the limits of both.
use Rattle.std.specs.Prelude.{ℕ, ◌+◌, ◌/◌, ◌%◌, ◌<◌, ◌≤◌, max, ◌≡◌, true, List, [], ◌∷◌, length, get_or}
use Rattle.ptacl.specs.Request.{Pair, Request, ascending}
use Rattle.ptacl.specs.Term.{Sort, Term, Policy, tag_of, fold, nodes, atoms}
use Rattle.files.specs.Prefix.{Form, spell}

-- a number as two bytes, big-endian, before the rest
abbrev pub big : ℕ → List ℕ → List ℕ
big n rest = n / 256 ∷ n % 256 ∷ rest

-- a term in prefix order: a node is one byte, an atom's numbers two bytes each
abbrev pub bytes : Form (Unit {0})
bytes = record { between = tt; mark = λ s k e. tag_of k ∷ []; pair = λ n v e. big n (big v []) }

unfoldable pub enc : {s : Sort} → Term s → List ℕ
enc t = spell bytes tt t

-- the root stands at depth 1, a target below a targeted node one deeper than it
unfoldable pub depth : {s : Sort} → Term s → ℕ
depth t = fold (record { numbers = λ n v. 1; leaf = λ s k. 1; one = λ s k d. 1 + d; two = λ s k c d. 1 + max c d }) t

-- names and values are numbers from 0 to 65,535
unfoldable pub InRange : List Pair → Type 0
InRange [] = Unit {0}
InRange (x ∷ xs) = (x.0 < 65536) × (x.1 < 65536) × InRange xs

-- both kinds of file: version byte 1, the body's length, the body
unfoldable pub framed : List ℕ → List ℕ
framed body = 1 ∷ big (length body) body

-- a policy within the limits, and its file
pub record Fits (p : Policy) : Type 0 where
  pub few : nodes p ≤ 255
  pub shallow : depth p ≤ 32
  pub range : InRange (atoms p)

unfoldable pub policy_file : Policy → List ℕ
policy_file p = framed (enc p)

-- a request within the limits, and its file: four bytes for each pair
pub record FitsRequest (q : Request) : Type 0 where
  pub few : length q ≤ 256
  pub ordered : ascending q ≡ true
  pub range : InRange q

unfoldable pub pair_bytes : List Pair → List ℕ
pair_bytes [] = []
pair_bytes (x ∷ xs) = big x.0 (big x.1 (pair_bytes xs))

unfoldable pub request_file : Request → List ℕ
request_file q = framed (pair_bytes q)

-- these bytes are the file of that policy, of that request
pub record IsPolicy (s : List ℕ) (p : Policy) : Type 0 where
  pub file : s ≡ policy_file p
  pub fits : Fits p

pub record IsRequest (s : List ℕ) (q : Request) : Type 0 where
  pub file : s ≡ request_file q
  pub fits : FitsRequest q

-- every entry is a byte
pub record Bytes (s : List ℕ) : Type 0 where
  pub byte : (i : ℕ) → get_or s i 0 < 256
