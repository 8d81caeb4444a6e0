-- The rest of the text is cut where the run ends.
use mathlib.Core.Path.{sym}
use Rattle.text.proofs.Runs.{run_at_cut, run_at_whole}
use Rattle.text.proofs.words.Words.run.Goals as goal

pub returns-in-Some-clause-run : goal.returns-in-Some-clause-run
returns-in-Some-clause-run c = rw (← c.self.view_is) (run_at_cut c.self.inside.text.now c.self.inside.at _ (sym c.in-Some.ensures))

pub returns-in-None-clause-run : goal.returns-in-None-clause-run
returns-in-None-clause-run c = rw (← c.self.view_is) (run_at_whole c.self.inside.text.now c.self.inside.at (sym c.in-None.ensures))
