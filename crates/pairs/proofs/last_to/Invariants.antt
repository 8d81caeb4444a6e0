-- The last pair stands at the place that was reached.
use Rattle.std.specs.Prelude.{List, [], ◌∷◌, ◌++◌, ◌≡◌, ◌≤◌, ◌<◌, length, insert}
use Rattle.files.specs.declared.pair.Pair.{Pair}
use Rattle.pairs.proofs.last_to.Given as goal

abbrev pub invariant-loop-at : goal.invariant-loop-at
invariant-loop-at l = (l.place ≤ l.at) × (l.at < length l.pairs)
    × ((front : List Pair) (last : Pair) → l.fn.pairs ≡ front ++ last ∷ [] → l.pairs ≡ insert front l.at last)

abbrev pub decreases-loop-at : goal.decreases-loop-at
decreases-loop-at l = l.at
