use Rattle.std.proofs.Common.{refl, ◌∙◌, ◌||◌, ◌&&◌, not, map, eqb, rules}
use Rattle.std.specs.List.{list_any}
use Rattle.std.proofs.lemmas.List.Recursion.{same_from_clauses}
use Rattle.std.proofs.lemmas.Iterator.Search.{any_from_yields_List}
use Rattle.std.proofs.lemmas.Iterator.Consumers.{YieldsList-from_first}
use Rattle.ptacl.specs.Request.{Pair}
use Rattle.ptacl.specs.Pairs.{named, unnamed}
use Rattle.files.specs.Tags.{pair_of, pair_in}
use Rattle.files.specs.declared.pairs.Pairs.{Pairs}
use Rattle.pairs.proofs.NamedPairs.holds_unnamed.Goals as goal

pub returns : goal.returns
returns c =
    let ats = map pair_of c.args.self.now.pairs.now in
    let test = λ (y : Pair). eqb y.0 c.args.name && not (named ats y) in
    any_from_yields_List test c.any.new.self _ _ c.any.ensures.ran (YieldsList-from_first pair_of (λ (p : Pairs). map pair_in p.rest.now) c.args.request.now c.pairs.ensures)
    (λ x b q k. search rules)
    ∙ same_from_clauses (list_any test) (λ ys. unnamed ats ys c.args.name) (λ y b. test y || b) refl (λ _ _. refl) (λ _ _. refl) c.args.request.now
