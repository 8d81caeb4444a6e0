-- The pair was met, and the next value is tried, or another was.
use Rattle.std.proofs.Common.{sym, ◌∙◌}
use Rattle.pairs.proofs.Fresh.{tried_same, tried_other}
use Rattle.pairs.proofs.NamedPairs.fresh_of.Goals as goal
use Rattle.pairs.proofs.NamedPairs.fresh_of.Goals.{then-eq, else-eq}

pub loop-pair-preserved : goal.loop-pair-preserved
loop-pair-preserved c =
    let l = c.loop-pair in
    elim c.if-eq.branch [
      | then-eq w ↦ rw w.fresh-is
          (tried_same _ _ _ _ _ l.invariant c.loop-pair-test.true (sym c.eq.ensures ∙ w.if-eq.true) c.args.self.now.ordered)
      | else-eq w ↦ rw w.fresh-is (tried_other _ _ _ _ _ l.invariant c.loop-pair-test.true (sym c.eq.ensures ∙ w.if-eq.false))
    ]
