-- The hit that is carried out is the first, since none is at a subset before m, nor at m before i.
use Prim.Native.Nat.{◌+◌, ◌/◌}
use mathlib.Core.Path.{◌≡◌, sym, ◌∙◌}
use mathlib.Core.List.{map}
use native.Mathlib.Omega.{arith}
use lib.ListN.{length, length-map}
use borrow.Author.Tests.{eq-eqb}
use Rattle.ptacl.proofs.Bools.{clash}
use Rattle.files.specs.Tags.{pair_of}
use Rattle.search.specs.Hits.{nothing, at}
use Rattle.search.proofs.Steps.{at_start, at_end, exposed_subset, to_table, from_table}
use Rattle.search.proofs.Steps.{Searching, row_new, row_there, searching_more, searching_quiet}
use Rattle.search.proofs.Subsets.find_in.Goals as goal
use Rattle.search.proofs.Subsets.find_in.Goals.{Joined-m-eq0, then-m-eq0, else-m-eq0, then-not-allows+else-loop-i-test, else-not-allows}

-- behind the test for a new row, the row of m is judged, in as many words as before
ready : (c : Joined-m-eq0) → Searching c.args.self.now.policy.now (map pair_of c.args.self.now.pairs.now) c.if-m-eq0.table.words.now (c.subsets.m / 512 + 1) c.subsets.m
ready c =
    let v = c.subsets.invariant in
    elim c.if-m-eq0.branch [
      | then-m-eq0 w ↦ rw w.table-is (row_new v.2 w.fill_row.ensures.filled)
      | else-m-eq0 w ↦ rw w.table-is (row_there v.2 w.if-m-eq0.false)
    ]

kept : (c : Joined-m-eq0) → length c.if-m-eq0.table.words.now ≡ length c.args.words.now
kept c =
    let v = c.subsets.invariant in
    elim c.if-m-eq0.branch [
      | then-m-eq0 w ↦ rw w.table-is (w.fill_row.ensures.len ∙ v.1)
      | else-m-eq0 w ↦ rw w.table-is v.1
    ]

pub loop-i-init : goal.loop-i-init
loop-i-init c = at_start

pub subsets-preserved-then-is_quiet : goal.subsets-preserved-then-is_quiet
subsets-preserved-then-is_quiet c =
    let j = (goal.at.subsets-preserved-then-is_quiet c).Joined-m-eq0 in
    let n = sym (length-map c.args.self.now.pairs.now pair_of) in
    (c.subsets.invariant.0, kept j, searching_quiet (ready j) n c.if-m-eq0-2.true (rw (← c.new.ensures.0, ← c.new.ensures.1, ← c.if-is_quiet.true) c.is_quiet.ensures))

pub subsets-preserved : goal.subsets-preserved
subsets-preserved c =
    let j = (goal.at.subsets-preserved c).Joined-m-eq0 in
    let n = sym (length-map c.args.self.now.pairs.now pair_of) in (
      c.subsets.invariant.0,
      kept j,
      searching_more (ready j) n (elim c.if-not-allows.branch [
        | then-not-allows+else-loop-i-test w ↦ at_end w.loop-i.invariant w.loop-i-test.false
        | else-not-allows w ↦ λ n e. clash (sym c.allows.ensures ∙ w.if-not-allows.false) e.larger
      ]),
    )

pub returns-then-m-end : goal.returns-then-m-end
returns-then-m-end c =
    let n = sym (length-map c.args.self.now.pairs.now pair_of) in
    nothing (λ m i e. c.subsets.invariant.2.none.none m (omega (arith, exposed_subset n e, c.pow2-end.ensures, c.if-m-end.true)) i e)

pub returns-then-allows : goal.returns-then-allows
returns-then-allows c =
    let r = ready (goal.at.returns-then-allows c).Joined-m-eq0 in
    let n = sym (length-map c.args.self.now.pairs.now pair_of) in
    at (record {
      hit = from_table n r.judged (omega arith) (record {
        numbered = omega (arith, c.pow2-end.ensures, c.if-m-end.false);
        larger = sym c.allows.ensures ∙ c.if-not-allows.true;
        taken = eq-eqb _ _ c.if-m-i-eq1.true;
        smaller = rw (← c.pow2.ensures) (sym c.allows-then-m-i-eq1.ensures ∙ c.if-allows.true);
      });
      earlier = λ {m'} {i'} k e. r.none.none m' k i' e;
      before = λ {i'} k e. c.loop-i.invariant.none i' k (to_table n r.judged (omega arith) e);
    })
