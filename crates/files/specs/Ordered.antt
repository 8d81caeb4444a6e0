-- Pairs as numbers in ascending order, and where a number belongs among them.
use Rattle.std.specs.Prelude.{ℕ, ◌<◌, ◌≤◌, ◌≡◌, true, List, map, length, get_or}
use Rattle.ptacl.specs.Request.{ascending}
use Rattle.ptacl.specs.Pairs.{unpacked}

pub record Ordered (list : List ℕ) : Type 0 where
  pub rises : ascending (map unpacked list) ≡ true

-- what stands before the place is below x, and nothing from there on is
pub record PlaceOf (list : List ℕ) (x place : ℕ) : Type 0 where
  pub most : place ≤ length list
  pub before : (i : ℕ) → i < place → get_or list i 0 < x
  pub behind : (i : ℕ) → place ≤ i → i < length list → x ≤ get_or list i 0
