-- The pairs of a policy, and normal forms. All of it speaks of the list of a policy's atoms.
use Rattle.std.specs.Prelude.{ℕ, zero, suc, ◌+◌, ◌*◌, ◌/◌, ◌%◌, ◌≡◌, Bool, true, false, not, ◌&&◌, ◌||◌, List, [], ◌∷◌, eqb}
use Rattle.ptacl.specs.Request.{Pair, Request, holds, has, ascending}

-- the named pairs are those of the atoms
abbrev pub named : List Pair → Pair → Bool
named ats x = holds ats x

-- the test passes at every number below
abbrev pub all_below : (ℕ → Bool) → ℕ → Bool
all_below f zero = true
all_below f (suc n) = f n && all_below f n

-- for each name in them the fresh value is the smallest that is not named for it
abbrev pub fresh : List Pair → Pair → Bool
fresh ats x = has ats x.0 && (not (named ats x) && all_below (λ v. named ats (x.0, v)) x.1)

unfoldable pub named_or_fresh : List Pair → Pair → Bool
named_or_fresh ats x = named ats x || fresh ats x

-- the policy's pairs are the named and fresh pairs, ascending by name and then value
pub record IsPairs (ats ps : List Pair) : Type 0 where
  pub ordered : ascending ps ≡ true
  pub members : (x : Pair) → holds ps x ≡ named_or_fresh ats x

-- a pair as one number, and the pair that a number stands for
abbrev pub packed : Pair → ℕ
packed x = x.0 * 65536 + x.1

abbrev pub unpacked : ℕ → Pair
unpacked n = (n / 65536, n % 65536)

-- the request holds an unnamed value of that name
abbrev pub unnamed : List Pair → Request → ℕ → Bool
unnamed ats [] n = false
unnamed ats (y ∷ q) n = eqb y.0 n && not (named ats y) || unnamed ats q n

-- the normal form keeps the request's named pairs, and has the fresh pair for each name of which it holds an unnamed value
unfoldable pub normal : List Pair → Request → Pair → Bool
normal ats q x = named ats x && holds q x || fresh ats x && unnamed ats q x.0

pub record IsNormal (ats : List Pair) (q r : Request) : Type 0 where
  pub ordered : ascending r ≡ true
  pub members : (x : Pair) → holds r x ≡ normal ats q x
