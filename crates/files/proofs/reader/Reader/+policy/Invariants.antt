use Rattle.files.proofs.reader.Reader.+policy.Given as goal

abbrev pub decreases-policy : goal.decreases-policy
decreases-policy l = l.left
