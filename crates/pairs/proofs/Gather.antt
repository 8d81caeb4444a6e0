-- Pairs put one by one into a list that ascends.
use Prim.Native.Nat.{ℕ, ◌+◌, ◌<◌, ◌≤◌}
use mathlib.Core.Path.{◌≡◌, refl, sym, ap, ◌∙◌}
use mathlib.Core.Bool.{true, ◌||◌, or_assoc, or-false}
use mathlib.Core.List.{List, [], ◌∷◌, map}
use native.Mathlib.Omega.{arith}
use lib.ListN.{length}
use Rattle.ptacl.specs.Request.{Pair, same_pair, holds, ascending}
use Rattle.ptacl.proofs.Bools.{or_swap}
use Rattle.files.specs.Tags.{pair_of}
use Rattle.files.specs.declared.pair.Pair.{Pair as PairC}
use Rattle.pairs.specs.Lists.{PutIn}

-- those in the list and those still to come are all, at most so many
pub record Gathered (most : ℕ) (all left : List Pair) (pairs : List PairC) : Type 0 where
  pub room : length pairs + length left ≤ most
  pub ordered : ascending (map pair_of pairs) ≡ true
  pub work : (z : Pair) → (holds (map pair_of pairs) z || holds left z) ≡ holds all z

pub gathered_start : {most : ℕ} {all left : List Pair} {pairs : List PairC} → pairs ≡ [] → left ≡ all → length all ≤ most → Gathered most all left pairs
gathered_start e f h = rw (e, f) (record { room = omega (arith, h); ordered = refl; work = λ z. refl })

module _ {most : ℕ} {all left : List Pair} {pairs : List PairC} (g : Gathered most all left pairs) where
  pub gathered_next : {x : Pair} {rest : List Pair} {new : List PairC} → left ≡ x ∷ rest
      → PutIn x (map pair_of pairs) (map pair_of new) → length new ≤ length pairs + 1 → Gathered most all rest new
  gathered_next {x} {rest} {new} e p h = record {
    room = omega (arith, g.room, ap length e);
    ordered = p.ordered;
    work = λ z.
        let own = same_pair x z in
        let held = holds (map pair_of pairs) z in
        let later = holds rest z in
        ap (λ b. b || later) (p.members z) ∙ (or_assoc own held later ∙ (or_swap own held later ∙ (rw e at (g.work z))));
  }

  pub gathered_all : left ≡ [] → (z : Pair) → holds (map pair_of pairs) z ≡ holds all z
  gathered_all e z = sym (or-false (holds (map pair_of pairs) z)) ∙ (rw e at (g.work z))

  pub gathered_room : {x : Pair} {rest : List Pair} → left ≡ x ∷ rest → length pairs < most
  gathered_room e = omega (arith, g.room, ap length e)
