-- What stands at a place of bytes.
use Rattle.std.specs.Prelude.{ℕ, ◌≡◌, List, ◌++◌, drop}

-- the bytes from a place on begin with xs
pub record At (b : List ℕ) (at : ℕ) (xs : List ℕ) : Type 0 where
  pub rest : List ℕ
  pub split : drop at b ≡ xs ++ rest
