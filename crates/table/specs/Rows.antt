-- 512 requests at a time, one to each bit (its lane) of a row of eight words.
use Rattle.std.specs.Prelude.{ℕ, ◌+◌, ◌*◌, ◌/◌, ◌%◌, ◌<◌, ◌≡◌, Bool, not, ◌||◌, cond, List, [], ◌∷◌, map, get_or}
use Rattle.std.specs.List.{range_with_len}
use Rattle.ptacl.specs.Values.{Values}
use Rattle.ptacl.specs.Request.{Request}
use Rattle.ptacl.specs.Exposure.{bit}
use Rattle.files.specs.declared.pair.Pair.{Pair as PairC}
use Rattle.files.specs.Tags.{pair_of}
use Rattle.table.specs.declared.row.PairRow.{PairRow}
use Rattle.table.specs.declared.row.TargetRow.{TargetRow}
use Rattle.table.specs.declared.row.PolicyRow.{PolicyRow}

-- bit j of a row
unfoldable pub lane : List ℕ → ℕ → Bool
lane r j = bit (get_or r (j / 64) 0) (j % 64)

-- what there is at each lane
unfoldable pub lanes : {A : Type 0} → (ℕ → A) → List A
lanes f = map f (range_with_len 0 512)

-- the same at all
abbrev pub every_lane : {A : Type 0} → A → List A
every_lane a = lanes (λ j. a)

-- a row by its lanes
pub record RowIs (r : List ℕ) (f : ℕ → Bool) : Type 0 where
  pub at : (j : ℕ) → j < 512 → lane r j ≡ f j

-- the request of lane j: the pairs whose rows have bit j
unfoldable pub request : List PairRow → ℕ → Request
request [] j = []
request (x ∷ rows) j = cond (lane x.held j) (pair_of x.pair ∷ request rows j) (request rows j)

abbrev pub requests : List PairRow → List Request
requests rows = lanes (request rows)

-- a target's value, as the set of that value alone: whether it is 1, and whether it is 0
abbrev pub of_target : Bool → Bool → Values
of_target x y = record { has1 = x; has0 = y; has_u = not (x || y) }

-- what a target, a policy comes to at each lane
unfoldable pub target_at : TargetRow → ℕ → Values
target_at t j = of_target (lane t.is1 j) (lane t.is0 j)

unfoldable pub set_at : PolicyRow → ℕ → Values
set_at p j = record { has1 = lane p.allow j; has0 = lane p.deny j; has_u = lane p.undefined j }

abbrev pub targets : TargetRow → List Values
targets t = lanes (target_at t)

abbrev pub sets : PolicyRow → List Values
sets p = lanes (set_at p)

-- pair i's word among the subsets from 64 * w on
pub record PairWord (w i x : ℕ) : Type 0 where
  pub pattern : (j : ℕ) → j < 64 → bit x j ≡ bit (64 * w + j) i

-- rows of so many of the pairs, for the subsets from 512 * w on
abbrev pub no_row : PairRow
no_row = record { pair = record { name = 0; value = 0 }; held = [] }

pub record PairRows (pairs : List PairC) (count w : ℕ) (rows : List PairRow) : Type 0 where
  pub same : (i : ℕ) → i < count → (get_or rows i no_row).pair ≡ get_or pairs i no_row.pair
  pub pattern : (i j : ℕ) → i < count → j < 512 → lane (get_or rows i no_row).held j ≡ bit (512 * w + j) i
