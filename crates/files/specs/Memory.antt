-- Lent memory.
use Rattle.std.specs.Prelude.{ℕ, ◌+◌, List, ◌++◌, length, take, drop}

-- s with xs from a place on
unfoldable pub put : ℕ → List ℕ → List ℕ → List ℕ
put at xs s = take at s ++ (xs ++ drop (at + length xs) s)

-- s with xs at its front; what lies past them is kept
unfoldable pub over : List ℕ → List ℕ → List ℕ
over xs s = xs ++ drop (length xs) s
