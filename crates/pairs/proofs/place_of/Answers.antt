-- What the search found, by the order of the pairs.
use Rattle.std.proofs.Common.{rules}
use Rattle.std.proofs.lemmas.Fn.{always_returns_same}
use Rattle.pairs.proofs.Placed.{stands, Sought, sought}
use Rattle.pairs.proofs.place_of.Goals as goal
use Rattle.pairs.proofs.place_of.Goals.{After-binary_search_by}

found : (c : After-binary_search_by) → Sought c.args.pair c.args.pairs.now c.requires c.binary_search_by.result
found c =
    let e = c.binary_search_by.ensures in
    sought _ _ _ _ e.bound (e.position (stands c.args.pair) (always_returns_same _ _ _ (λ a r f called. search rules)))

pub returns-clause-there : goal.returns-clause-there
returns-clause-there c = (found (goal.at.returns-clause-there c).After-binary_search_by).there

pub returns-clause-bound : goal.returns-clause-bound
returns-clause-bound c = (found (goal.at.returns-clause-bound c).After-binary_search_by).bound

pub returns-clause-place : goal.returns-clause-place
returns-clause-place c = (found (goal.at.returns-clause-place c).After-binary_search_by).place
