-- The pairs ascend, so the test parts them.
use Rattle.std.proofs.Common.{rules, nat_lt}
use Rattle.std.proofs.lemmas.List.Sorted.{IsPartitionPoint-from_clause, IsPartitionedBy-ltb}
use Rattle.files.proofs.Lookup.{number, non_decreasing, placed}
use Rattle.files.proofs.request.Request.place_of.Goals as goal

pub returns-clause-place : goal.returns-clause-place
returns-clause-place c =
    let n = c.from-number.result in
    let parted = IsPartitionedBy-ltb number _ n (non_decreasing _ c.self.invariant) in
    let point = IsPartitionPoint-from_clause (λ b. nat_lt (number b) n) _ _ c.partition_point.ensures.partitioned parted (λ a r f called. search rules) in
    rw (← c.self.view_is, ← c.from-number.ensures) (placed _ c.self.invariant n _ c.partition_point.ensures.bound point)
