-- By what stands at the pair's place and just before it.
use Rattle.std.proofs.Common.{rules, ◌-◌}
use Rattle.files.proofs.Lookup.{found_one, found_zero}
use Rattle.files.proofs.request.Request.value_of.Goals as goal

pub returns-then-is_at : goal.returns-then-is_at
returns-then-is_at c = found_one _ c.args.pair _ c.place_of-place.ensures.ascends (search rules) c.place_of-place.ensures.place (search rules)

pub returns-then-is_named_at : goal.returns-then-is_named_at
returns-then-is_named_at c =
    let i = c.place_of-place.result in
    found_zero _ c.args.pair i c.place_of-place.ensures.ascends (search rules) c.place_of-place.ensures.place i (search rules) (search rules)

pub returns-then-is_named_at-2 : goal.returns-then-is_named_at-2
returns-then-is_named_at-2 c =
    let i = c.place_of-place.result in
    found_zero _ c.args.pair i c.place_of-place.ensures.ascends (search rules) c.place_of-place.ensures.place (i - 1) (search rules) (search rules)
