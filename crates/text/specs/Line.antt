-- A policy as one line of words in prefix order, single spaces between, a line feed at the end.
use Rattle.std.specs.Prelude.{ℕ, zero, suc, ◌+◌, ◌/◌, ◌%◌, ◌≡◌, cond, List, [], ◌∷◌, ◌++◌, ltb}
use Rattle.ptacl.specs.Term.{Sort, Policy, Shape, numbers, leaf, one, two, shape}
use Rattle.files.specs.Encoding.{Fits}
use Rattle.files.specs.Prefix.{Form, spell}
use Rattle.text.specs.Words.{word}

-- decimal without leading zeros, in at most so many digits; five are enough for a name or a value
unfoldable pub digits : ℕ → ℕ → List ℕ
digits zero n = []
digits (suc k) n = cond (ltb n 10) ((48 + n) ∷ []) (digits k (n / 10) ++ ((48 + n % 10) ∷ []))

abbrev pub decimal : ℕ → List ℕ
decimal n = digits 5 n

-- what follows a word or a number
pub data End : Type 0 where
  space : End
  line_feed : End

abbrev pub byte_of : End → ℕ
byte_of space = 32
byte_of line_feed = 10

unfoldable pub ended : List ℕ → End → List ℕ
ended w e = w ++ (byte_of e ∷ [])

-- behind a node's word: a space, or what follows the term if nothing is below the node
abbrev pub behind : {s : Sort} → Shape s → End → End
behind (leaf t) e = e
behind (numbers f) e = space
behind (one f) e = space
behind (two r f) e = space

abbrev pub words : Form End
words = record {
  between = space;
  mark = λ s n e. ended (word n) (behind (shape n) e);
  pair = λ n v e. ended (decimal n) space ++ ended (decimal v) e;
}

unfoldable pub line : Policy → List ℕ
line p = spell words line_feed p

-- this text is the line of that policy, within the limits
pub record IsText (s : List ℕ) (p : Policy) : Type 0 where
  pub text : s ≡ line p
  pub fits : Fits p
