-- What the steps to a policy's pairs and to a normal form give.
use Rattle.std.specs.Prelude.{ℕ, ◌≡◌, if◌then◌else◌, Bool, true, false, List, ◌||◌}
use Rattle.ptacl.specs.Request.{Pair, Request, same_pair, holds, ascending}
use Rattle.ptacl.specs.Pairs.{named, all_below, unnamed}

-- the pair is put into an ascending list, once
pub record PutIn (x : Pair) (old new : List Pair) : Type 0 where
  pub ordered : ascending new ≡ true
  pub members : (z : Pair) → holds new z ≡ (same_pair x z || holds old z)

-- the named pairs, each once, ascending
pub record Named (ats ps : List Pair) : Type 0 where
  pub ordered : ascending ps ≡ true
  pub members : (z : Pair) → holds ps z ≡ named ats z

-- the fresh pair of a name
pub record FreshOf (ats : List Pair) (n : ℕ) (x : Pair) : Type 0 where
  pub name : x.0 ≡ n
  pub free : named ats x ≡ false
  pub smallest : all_below (λ v. named ats (n, v)) x.1 ≡ true

-- of the policy's pairs, a named one is kept if the request holds it, a fresh one for an unnamed value of its name
abbrev pub kept : List Pair → Request → Pair → Bool
kept ats q x = if named ats x then holds q x else unnamed ats q x.0
