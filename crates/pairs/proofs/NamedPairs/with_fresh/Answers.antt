-- Each named pair goes in, and before the first of a name the fresh one.
use Rattle.std.proofs.Common.{refl, sym, ◌∙◌, arith}
use Rattle.pairs.proofs.Placed.{held_put}
use Rattle.pairs.proofs.Gather.{gathered_start, gathered_next, gathered_room}
use Rattle.pairs.proofs.Fresh.{coming_few, coming_room, coming_end, fresh_put, last_kept, last_new, last_there, Halfway, halfway}
use Rattle.pairs.proofs.NamedPairs.with_fresh.Goals as goal
use Rattle.pairs.proofs.NamedPairs.with_fresh.Goals.{Joined-ne, then-ne, else-ne}

pub loop-pair-init : goal.loop-pair-init
loop-pair-init c = (gathered_start c.clear.ensures refl (coming_few _ c.args.self.now.few), tt)

pub append-requires-clause-room : goal.append-requires-clause-room
append-requires-clause-room c = coming_room _ _ c.loop-pair-test.true c.loop-pair.invariant.0

put : (c : Joined-ne) → Halfway c.args.self.now.pairs.now c.loop-pair.pair-index (record { name = 0; value = 0 }) c.loop-pair-test.true c.if-ne.last c.if-ne.pairs.items
put c =
    let v = c.loop-pair.invariant in
    let l = c.loop-pair-test.true in
    elim c.if-ne.branch [
      | then-ne w ↦
          let b = fresh_put _ _ _ l w.fresh_of-fresh.ensures w.append.ensures.put in
          rw (w.pairs-is, w.last-is) (halfway _ _ _ l v.0 b w.append.ensures.most (last_new _ _ _ l b))
      | else-ne w ↦
          let there = last_there _ _ c.loop-pair.last _ v.1 (sym c.ne.ensures ∙ w.if-ne.false) in
          rw (w.pairs-is, w.last-is) (halfway _ _ _ l v.0 (held_put v.0.ordered there) (omega arith) v.1)
    ]

pub append-requires-in-loop-pair-clause-room : goal.append-requires-in-loop-pair-clause-room
append-requires-in-loop-pair-clause-room c = gathered_room (put (goal.at.append-requires-in-loop-pair-clause-room c).Joined-ne).gathered refl

pub append-requires-in-loop-pair-clause-ordered : goal.append-requires-in-loop-pair-clause-ordered
append-requires-in-loop-pair-clause-ordered c = (put (goal.at.append-requires-in-loop-pair-clause-ordered c).Joined-ne).gathered.ordered

pub loop-pair-preserved : goal.loop-pair-preserved
loop-pair-preserved c =
    let h = put (goal.at.loop-pair-preserved c).Joined-ne in
    let a = c.append-in-loop-pair.ensures in
    (gathered_next h.gathered refl a.put a.most, last_kept _ c.if-ne.last h.last_put a.put)

pub returns-clause-pairs : goal.returns-clause-pairs
returns-clause-pairs c = coming_end _ _ c.loop-pair.invariant.0 c.loop-pair-test.false
