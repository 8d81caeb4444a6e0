-- The policy in the bytes of its file; the order of a request's pairs.
use Rattle.std.specs.Prelude.{ℕ, ◌+◌, ◌*◌, ◌-◌, ◌<◌, ◌≡◌, true, false, List, [], length, Option, Some, None, Result, Ok, Err, slice_index_or, get_or}
use Rattle.ptacl.specs.Request.{Pair, Request, below, ascending}
use Rattle.ptacl.specs.Term.{Policy, deny}
use Rattle.files.specs.Encoding.{InRange}
use Rattle.files.specs.Refusal.{Read, accepted, refused}
use Rattle.files.specs.ReadPolicy.{read_policy}
use Rattle.files.specs.ReadRequest.{in_order}
use Rattle.files.specs.Tags.{pair_in}

abbrev pub accepted_or : {A : Type 0} → A → Read A → A
accepted_or a (accepted x) = x
accepted_or a (refused n at) = a

unfoldable pub policy_in : List ℕ → Policy
policy_in s = accepted_or deny (read_policy s)

-- the pairs ascend, and their names and values are numbers that a file has
pub record Ascends (q : Request) : Type 0 where
  pub ordered : ascending q ≡ true
  pub range : InRange q

-- the k-th of pairs of four bytes
abbrev pub pair_nth : List (List ℕ) → ℕ → Pair
pair_nth ps k = pair_in (slice_index_or ps k [])

-- each pair before n is above the one before; the first that is not
abbrev pub RisesTo : List (List ℕ) → ℕ → Type 0
RisesTo ps n = (k : ℕ) → 0 < k → k < n → below (pair_nth ps (k - 1)) (pair_nth ps k) ≡ true

pub record FirstFault (ps : List (List ℕ)) (i : ℕ) : Type 0 where
  pub behind : 0 < i
  pub inside : i < length ps
  pub rises : RisesTo ps i
  pub falls : below (pair_nth ps (i - 1)) (pair_nth ps i) ≡ false

abbrev pub IsFirstFault : List (List ℕ) → Option ℕ → Type 0
IsFirstFault ps (Some i) = FirstFault ps i
IsFirstFault ps None = RisesTo ps (length ps)

-- pairs are a request, in order; or the pair with this number is the first that is not above the one before
abbrev pub OrderTells : List Pair → Result Request ℕ → Type 0
OrderTells ps (Ok r) = (r ≡ ps) × ((number : ℕ) (q : Request) (at : ℕ) → in_order number q at ps ≡ accepted q)
OrderTells ps (Err i) = (i < length ps) × ((number : ℕ) (q : Request) (at : ℕ) → in_order number q at ps ≡ refused number (at + 4 * i))

-- a pair stands at a place of a request; a pair of a name does
abbrev pub IsPairAt : Request → ℕ → Pair → Type 0
IsPairAt q i x = (i < length q) × (get_or q i (0, 0) ≡ x)

abbrev pub IsNameAt : Request → ℕ → ℕ → Type 0
IsNameAt q i name = (i < length q) × ((get_or q i (0, 0)).0 ≡ name)
