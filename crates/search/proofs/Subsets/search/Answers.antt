use native.Mathlib.Omega.{arith}
use Rattle.search.proofs.Files.{hit_index, hit_below, hit_length, found_none, found_first}
use Rattle.search.proofs.Subsets.search.Goals as goal

pub returns-in_err-m : goal.returns-in_err-m
returns-in_err-m c = rw c.from_residual.ensures (found_none c.in_err-m.ensures)

pub pow2-requires : goal.pow2-requires
pow2-requires c = omega (arith, hit_index _ c.in_ok-m.ensures, c.args.self.now.few)

pub overflow_sub-m : goal.overflow_sub-m
overflow_sub-m c = rw c.pow2.ensures (hit_below _ c.in_ok-m.ensures)

pub write-bytes-requires : goal.write-bytes-requires
write-bytes-requires c = rw c.pow2.ensures (omega (arith, hit_length _ c.in_ok-m.ensures c.args.self.now.few, c.requires))

pub returns : goal.returns
returns c =
    let w = c.write-bytes.ensures in
    found_first c.in_ok-m.ensures (rw c.pow2.ensures at w.bytes) (rw c.pow2.ensures at w.written)
