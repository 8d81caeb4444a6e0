-- What is left on the stack when its two topmost sets give way to one.
use Rattle.std.proofs.Common.{◌≡◌, ℕ, ◌+◌, ◌-◌, ◌<◌, List, ◌∷◌, length, map, take, drop, suc, arith, add-one, drop-cons, length-take}
use Rattle.std.proofs.lemmas.List.{length-map}
use Rattle.ptacl.specs.declared.DecisionSet.{DecisionSet}
use Rattle.flat.proofs.walk.Sets.join.Goals as goal

joined : (xs : List DecisionSet) (own set : DecisionSet) (top m n l : ℕ) → top < length xs → m ≡ suc (suc l) → n ≡ suc l
    → map (λ set. set.code) (take n (set ∷ drop (top + 1) xs)) ≡ set.code ∷ drop 2 (map (λ set. set.code) (take m (own ∷ drop top xs)))
joined xs own set top m n l h e f = rw (e, f, drop-cons xs top own h, add-one)

below : (xs : List DecisionSet) (own : DecisionSet) (m : ℕ) → 1 < length (map (λ set. set.code) (take m (own ∷ xs))) → 1 < m
below xs own m h = omega (arith, length-map (take m (own ∷ xs)) (λ (set : DecisionSet). set.code), length-take m (own ∷ xs))

pub returns : goal.returns
returns c =
    let h = below (drop c.self.inside.stack.top c.self.inside.others.now) c.self.inside.stack.own (32 - c.self.inside.stack.top) (rw (← c.self.view_is) at c.requires) in
    rw (← c.self.view_is)
    (joined c.self.inside.others.now c.self.inside.stack.own c.args.set c.self.inside.stack.top _ _ (30 - c.self.inside.stack.top) (omega arith) (omega arith) (omega arith))
