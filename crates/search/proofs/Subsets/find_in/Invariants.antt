-- The outer loop's invariant: the rows met so far are judged, and no subset before m exposes; the inner loop's: none at m before i.
use Prim.Native.Nat.{◌+◌, ◌-◌, ◌/◌, ◌≤◌}
use mathlib.Core.Path.{◌≡◌}
use mathlib.Core.List.{map}
use lib.ListN.{length}
use Rattle.ptacl.specs.Exposure.{one_pair}
use Rattle.files.specs.Tags.{pair_of}
use Rattle.table.specs.Allowed.{bit_at}
use Rattle.search.specs.Hits.{HitAt}
use Rattle.search.proofs.Steps.{NoneAt, Searching}
use Rattle.search.proofs.Subsets.find_in.Given as goal

abbrev pub invariant-loop-i : goal.invariant-loop-i
invariant-loop-i l = NoneAt (HitAt (bit_at l.table.words.now) one_pair (length l.pairs)) l.m l.i

abbrev pub invariant-subsets : goal.invariant-subsets
invariant-subsets l =
    (l.end ≤ 65536) × (length l.table.words.now ≡ length l.fn.words)
    × Searching l.policy (map pair_of l.pairs) l.table.words.now ((l.m + 511) / 512) l.m

abbrev pub decreases-subsets : goal.decreases-subsets
decreases-subsets l = l.end - l.m
