-- Pairs, requests, one within another; and the order of pairs.
use Rattle.std.specs.Prelude.{ℕ, ◌≡◌, Bool, true, false, ◌&&◌, ◌||◌, List, [], ◌∷◌, eqb, ltb}

-- a name and a value; of any size, since resistance speaks of all finite requests
abbrev pub Pair : Type 0
Pair = ℕ × ℕ

-- a request is judged only by the pairs that it holds: order and repetition say nothing
abbrev pub Request : Type 0
Request = List Pair

abbrev pub same_pair : Pair → Pair → Bool
same_pair x y = eqb x.0 y.0 && eqb x.1 y.1

-- the request holds the pair
abbrev pub holds : Request → Pair → Bool
holds [] x = false
holds (y ∷ q) x = same_pair y x || holds q x

-- the request holds a pair of that name
abbrev pub has : Request → ℕ → Bool
has [] n = false
has (y ∷ q) n = eqb y.0 n || has q n

-- every pair of the first is in the second
pub record Within (q' q : Request) : Type 0 where
  pub up : (x : Pair) → holds q' x ≡ true → holds q x ≡ true

-- strictly ascending by name and then value
abbrev pub below : Pair → Pair → Bool
below x y = ltb x.0 y.0 || eqb x.0 y.0 && ltb x.1 y.1

abbrev pub below_head : Pair → List Pair → Bool
below_head x [] = true
below_head x (y ∷ ys) = below x y

abbrev pub ascending : List Pair → Bool
ascending [] = true
ascending (x ∷ xs) = below_head x xs && ascending xs
