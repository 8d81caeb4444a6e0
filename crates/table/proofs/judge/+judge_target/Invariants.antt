use Rattle.table.proofs.judge.+judge_target.Given as goal

abbrev pub decreases-judge_target : goal.decreases-judge_target
decreases-judge_target l = l.left
