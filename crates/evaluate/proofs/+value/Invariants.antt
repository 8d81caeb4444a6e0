use Rattle.evaluate.proofs.+value.Given as goal

abbrev pub decreases-value : goal.decreases-value
decreases-value l = l.left
