-- One node a turn, by the laws of proofs/Reading.antt.
use Prim.Native.Nat.{ℕ, ◌+◌, ◌-◌, ◌<◌}
use mathlib.Core.Path.{◌≡◌, refl, ap, subst, ◌∙◌}
use mathlib.Core.List.{List, [], ◌∷◌, ◌++◌}
use native.Mathlib.Omega.{arith}
use lib.ListN.{take, set, length-take, length-set}
use Rattle.std.specs.Prelude.{Some}
use Rattle.std.proofs.lemmas.List.{take_more_set}
use Rattle.ptacl.specs.Term.{policy}
use Rattle.files.specs.Refusal.{accepted}
use Rattle.files.specs.Prefix.{scan}
use Rattle.files.specs.ReadPolicy.{head_at, in_bytes}
use Rattle.files.specs.Tags.{sort_of}
use Rattle.files.specs.Reading.{Place, node_in, nothing, told}
use Rattle.files.specs.declared.tag.Tag.{Tag}
use Rattle.flat.specs.Places.{PlacesTo}
use Rattle.flat.specs.declared.read.Due.{Due}
use Rattle.flat.proofs.Reading.{End, Loop, loop_start, loop_near, loop_room, loop_stop, loop_few, loop_cut, loop_numbers, loop_leaf, loop_one, loop_two, loop_end, stopped}
use Rattle.flat.proofs.read.read_nodes.Goals.{In_ok-tag}
use Rattle.flat.proofs.read.read_nodes.Goals as goal

-- a turn's node was read, and there is room for its place
record Turn (whole : End) (r p : Place) (places : List ℕ) (count : ℕ) (d : Due) (later : List Due) (tag : Tag) (at : ℕ) : Type 0 where
  loop : Loop whole r (take count places) (Some d) later
  gives : node_in (head_at 255 r.bytes (sort_of d.sort) d.left r.at r.nodes) ≡ accepted tag
  moved : p ≡ record r { at = r.at + 1; nodes = r.nodes + 1 }
  deep : 0 < d.left
  room : count < 255
  noted : take (count + 1) (set places count at) ≡ take count places ++ r.at ∷ []

ready : (c : In_ok-tag)
    → Turn (told nothing (scan (in_bytes 255 c.args.reader.now.bytes) 32 policy tt c.args.reader.now.at c.args.reader.now.nodes)) c.loop-due.reader c.node.new.self
    c.loop-due.places c.loop-due.count c.in-Some.term (take c.loop-due.top c.loop-due.later) c.in_ok-tag.tag c.at-at.result
ready c =
    let l = rw c.in-Some.is at c.loop-due.invariant.loop in
    let n = rw (c.from.ensures, c.left.ensures, c.sort-sort.ensures) at c.in_ok-tag.ensures in
    let m : c.loop-due.count < 255 = loop_few l n.gives c.loop-due.places c.loop-due.count refl (c.loop-due.auto.places ∙ c.requires.room) c.loop-due.invariant.few in
    record {
      loop = l;
      gives = n.gives;
      moved = n.ok.0;
      deep = n.ok.1;
      room = m;
      noted = rw c.at-at.ensures (take_more_set c.loop-due.places c.loop-due.count _ (omega (arith, m, c.loop-due.auto.places)));
    }

-- so fewer places are left than before
fewer : (c : In_ok-tag) → 255 - (c.loop-due.count + 1) < 255 - c.loop-due.count
fewer c = omega (arith, (ready c).room)

pub loop-due-init : goal.loop-due-init
loop-due-init c = record {
  few = omega arith;
  low = omega arith;
  size = refl;
  same = refl;
  loop = loop_start c.requires.start.0 c.requires.start.1 refl refl c.default.ensures;
}

pub returns-in_err-tag-clause-goes_on : goal.returns-in_err-tag-clause-goes_on
returns-in_err-tag-clause-goes_on c =
    let l = rw c.in-Some.is at c.loop-due.invariant.loop in
    let n = rw (c.from.ensures, c.left.ensures, c.sort-sort.ensures) at c.in_err-tag.ensures in
    stopped c.from_residual.result _ _ _ c.from_residual.ensures.1 (loop_stop l n.gives) (ap (λ p. p.bytes) n.err ∙ c.loop-due.invariant.same)

pub bounds-places-count : goal.bounds-places-count
bounds-places-count c = omega (arith, (ready (goal.at.bounds-places-count c).In_ok-tag).room, c.loop-due.auto.places, c.requires.room)

pub overflow_cast-places : goal.overflow_cast-places
overflow_cast-places c = let l = rw c.in-Some.is at c.loop-due.invariant.loop in omega (arith, loop_near l, c.at-at.ensures)

pub returns-in_err-pair-in-Numbers-clause-goes_on : goal.returns-in_err-pair-in-Numbers-clause-goes_on
returns-in_err-pair-in-Numbers-clause-goes_on c =
    let t = ready (goal.at.returns-in_err-pair-in-Numbers-clause-goes_on c).In_ok-tag in
    let p = rw t.moved at c.in_err-pair-in-Numbers.ensures in
    stopped c.from_residual-in_err-pair-in-Numbers.result _ _ _ c.from_residual-in_err-pair-in-Numbers.ensures.1
    (loop_cut t.loop t.gives c.in-Numbers.ensures (λ x. x) p.0) (p.1 ∙ c.loop-due.invariant.same)

pub loop-due-preserved-in-Numbers : goal.loop-due-preserved-in-Numbers
loop-due-preserved-in-Numbers c =
    let t = ready (goal.at.loop-due-preserved-in-Numbers c).In_ok-tag in
    let p = rw t.moved at c.in_ok-pair-in-Numbers.ensures in
    record {
      few = omega (arith, t.room);
      low = omega (arith, c.pop-due.ensures.low, c.loop-due.invariant.low);
      size = c.loop-due.invariant.size;
      same = p.1 ∙ c.loop-due.invariant.same;
      loop = loop_numbers t.loop t.gives t.noted
          c.pop-due.result (take c.pop-due.new.top c.loop-due.later) c.pop-due.ensures.items
          (λ h. c.pop-due.ensures.variant (omega (arith, h, length-take c.loop-due.top c.loop-due.later))) c.in-Numbers.ensures (λ x. x) p;
    }

pub loop-due-preserved-in-Leaf : goal.loop-due-preserved-in-Leaf
loop-due-preserved-in-Leaf c =
    let t = ready (goal.at.loop-due-preserved-in-Leaf c).In_ok-tag in
    record {
      few = omega (arith, t.room);
      low = omega (arith, c.pop-due-in-Leaf.ensures.low, c.loop-due.invariant.low);
      size = c.loop-due.invariant.size;
      same = ap (λ p. p.bytes) t.moved ∙ c.loop-due.invariant.same;
      loop = loop_leaf t.loop t.gives t.noted
          c.pop-due-in-Leaf.result (take c.pop-due-in-Leaf.new.top c.loop-due.later) c.pop-due-in-Leaf.ensures.items
          (λ h. c.pop-due-in-Leaf.ensures.variant (omega (arith, h, length-take c.loop-due.top c.loop-due.later)))
          c.in-Leaf.ensures t.moved;
    }

pub loop-due-preserved-in-One : goal.loop-due-preserved-in-One
loop-due-preserved-in-One c =
    let t = ready (goal.at.loop-due-preserved-in-One c).In_ok-tag in
    record {
      few = omega (arith, t.room);
      low = c.loop-due.invariant.low;
      size = c.loop-due.invariant.size;
      same = ap (λ p. p.bytes) t.moved ∙ c.loop-due.invariant.same;
      loop = rw (c.below.ensures, c.sort-sort.ensures) (loop_one t.loop t.gives t.noted t.deep t.moved c.in-One.ensures);
    }

pub bounds-later-top : goal.bounds-later-top
bounds-later-top c =
    let t = ready (goal.at.bounds-later-top c).In_ok-tag in
    omega (arith, loop_room t.loop t.deep, length-take c.loop-due.top c.loop-due.later, c.loop-due.invariant.size, c.loop-due.invariant.low)

pub loop-due-preserved : goal.loop-due-preserved
loop-due-preserved c =
    let t = ready (goal.at.loop-due-preserved c).In_ok-tag in
    let h : c.loop-due.top < 32 = omega (arith, loop_room t.loop t.deep, length-take c.loop-due.top c.loop-due.later, c.loop-due.invariant.size, c.loop-due.invariant.low) in
    record {
      few = omega (arith, t.room);
      low = omega arith;
      size = length-set c.loop-due.later c.loop-due.top _ ∙ c.loop-due.invariant.size;
      same = ap (λ p. p.bytes) t.moved ∙ c.loop-due.invariant.same;
      loop = rw (c.below-in-Two-2.ensures, c.below-in-Two.ensures, c.sort-sort.ensures) (loop_two t.loop t.gives t.noted t.deep t.moved c.in-Two.ensures
          (take_more_set c.loop-due.later c.loop-due.top _ (omega (arith, c.loop-due.invariant.size))));
    }

pub loop-due-smaller-in-Numbers : goal.loop-due-smaller-in-Numbers
loop-due-smaller-in-Numbers c = fewer (goal.at.loop-due-smaller-in-Numbers c).In_ok-tag

pub loop-due-smaller-in-Leaf : goal.loop-due-smaller-in-Leaf
loop-due-smaller-in-Leaf c = fewer (goal.at.loop-due-smaller-in-Leaf c).In_ok-tag

pub loop-due-smaller-in-One : goal.loop-due-smaller-in-One
loop-due-smaller-in-One c = fewer (goal.at.loop-due-smaller-in-One c).In_ok-tag

pub loop-due-smaller : goal.loop-due-smaller
loop-due-smaller c = fewer (goal.at.loop-due-smaller c).In_ok-tag

pub returns : goal.returns
returns c =
    let e = loop_end (rw c.in_default.is at c.loop-due.invariant.loop) in
    record {
      goes_on = (e.0, c.loop-due.invariant.same);
      noted = (c.loop-due.invariant.few, subst (λ b. PlacesTo b c.loop-due.reader.nodes (take c.loop-due.count c.loop-due.places)) c.loop-due.invariant.same e.1);
    }
