-- `term` ends: a node's parts have a level less, which the check does not find alone.
use Rattle.cases.proofs.term.Reader.+term.Given as goal

abbrev pub decreases-term : goal.decreases-term
decreases-term l = l.levels
