-- What each of two steps keeps, both keep.
use Rattle.text.proofs.Written.{keeps_twice}
use Rattle.text.proofs.convert.+convert.Goals as goal

pub returns-in_err-convert-in-Two-clause-kept : goal.returns-in_err-convert-in-Two-clause-kept
returns-in_err-convert-in-Two-clause-kept g t c = keeps_twice _ _ _ c.put_node.ensures.3 c.convert-in-Two.ensures.kept

pub returns-in_ok-pair-in-Numbers-clause-kept : goal.returns-in_ok-pair-in-Numbers-clause-kept
returns-in_ok-pair-in-Numbers-clause-kept g t c = keeps_twice _ _ _ c.put_node.ensures.3 c.put_pair.ensures.3

pub returns-in-One-clause-kept : goal.returns-in-One-clause-kept
returns-in-One-clause-kept g t c = keeps_twice _ _ _ c.put_node.ensures.3 c.convert.ensures.kept

pub returns-in_ok-convert-in-Two-clause-kept : goal.returns-in_ok-convert-in-Two-clause-kept
returns-in_ok-convert-in-Two-clause-kept g t c =
    keeps_twice _ _ _ (keeps_twice _ _ _ c.put_node.ensures.3 c.convert-in-Two.ensures.kept) c.convert-in-Two-2.ensures.kept
