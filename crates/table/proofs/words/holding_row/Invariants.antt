-- The words before the k-th are those of their subsets.
use Prim.Native.Nat.{ℕ, ◌+◌, ◌*◌, ◌<◌}
use mathlib.Core.Path.{◌≡◌}
use lib.ListN.{length, get_or}
use Rattle.table.specs.Rows.{PairWord}
use Rattle.table.proofs.words.holding_row.Given as goal

abbrev pub invariant-loop-k : goal.invariant-loop-k
invariant-loop-k l = (length l.words ≡ 8) × ((n : ℕ) → n < l.k → PairWord (8 * l.w + n) l.i (get_or l.words n 0))
