use Rattle.std.proofs.Common.{map, rules}
use Rattle.arrayvec.proofs.ArrayVecLemmas.{filter-from_retain}
use Rattle.files.specs.Tags.{pair_of}
use Rattle.pairs.specs.Lists.{kept}
use Rattle.pairs.proofs.Keep.{kept_all}
use Rattle.pairs.proofs.normal_form_of.Goals as goal

pub returns-clause-normal : goal.returns-clause-normal
returns-clause-normal c =
    let named = c.named_of.new.pairs.items in
    let q = c.args.request.now in
    let same = filter-from_retain _ (λ p. kept (map pair_of named) q (pair_of p)) _ (λ x b f' y k. search rules) _ _ c.retain.ensures.filtered in
    rw same (kept_all named c.with_fresh.new.pairs.items q c.named_of.ensures.named (rw c.as_slice.ensures.value at c.with_fresh.ensures.pairs))
