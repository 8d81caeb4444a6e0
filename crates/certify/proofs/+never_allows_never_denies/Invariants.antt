-- The cycle {never_allows, never_denies}, by the depth left: each calls the other at policy not.
use Rattle.certify.proofs.+never_allows_never_denies.Given as goal

abbrev pub decreases-never_allows : goal.decreases-never_allows
decreases-never_allows l = l.left

abbrev pub decreases-never_denies : goal.decreases-never_denies
decreases-never_denies l = l.left
