use Rattle.files.proofs.reader.Reader.+target.Given as goal

abbrev pub decreases-target : goal.decreases-target
decreases-target l = l.left
