use Rattle.text.proofs.convert.+convert.Given as goal

abbrev pub decreases-convert : goal.decreases-convert
decreases-convert g l = l.left
