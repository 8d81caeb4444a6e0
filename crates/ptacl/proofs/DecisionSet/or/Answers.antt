-- `DecisionSet::or` meets its contract, since an or is not(and(not, not)).
use Prim.Native.Nat.{ℕ}
use mathlib.Core.Path.{◌≡◌, sym, ap, ap₂, ◌∙◌}
use Rattle.ptacl.specs.Value.{not_v, and_v, or_v}
use Rattle.ptacl.specs.Values.{Values, each, each2, code, set_of}
use Rattle.ptacl.specs.Term.{policy}
use Rattle.ptacl.specs.Meaning.{lift, lift2}
use Rattle.ptacl.proofs.Codes.{code_set}
use Rattle.ptacl.proofs.Sets.{or_is}
use Rattle.ptacl.proofs.DecisionSet.or.Goals as goal

-- the set of the code that a call answers
its : {c : ℕ} (s : Values) → c ≡ code s → set_of c ≡ s
its s e = ap set_of e ∙ code_set s

by_calls : (x y : ℕ) {l r both own : ℕ} → l ≡ code (each not_v (set_of x)) → r ≡ code (each not_v (set_of y))
    → both ≡ code (each2 and_v (set_of l) (set_of r)) → own ≡ code (each not_v (set_of both)) → own ≡ code (each2 or_v (set_of x) (set_of y))
unfolding lift lift2
by_calls x y {l} {r} a b c d =
    let e = its (each2 and_v (set_of l) (set_of r)) c ∙ ap₂ (each2 and_v) (its (each not_v (set_of x)) a) (its (each not_v (set_of y)) b) in
    d ∙ ap (λ s. code (each not_v s)) e ∙ ap code (sym (or_is policy (set_of x) (set_of y)))

pub returns : goal.returns
returns c = by_calls c.args.self.code c.args.other.code c.not.ensures c.not-2.ensures c.and.ensures c.not-3.ensures
