use Rattle.table.proofs.judge.+judge_policy.Given as goal

abbrev pub decreases-judge_policy : goal.decreases-judge_policy
decreases-judge_policy l = l.left
