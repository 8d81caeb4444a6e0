use Rattle.std.proofs.Common.{arith}
use lib.Pow.{pow_mono}
use Rattle.search.proofs.Word.less.Goals as goal

pub overflow_shl-result : goal.overflow_shl-result
overflow_shl-result c = omega (arith, c.pow2-p.ensures, pow_mono {i = c.args.i} {j = 5} (omega arith))
