-- `DecisionSet::union` meets its contract: or of bits is right at all 64 pairs of codes.
use mathlib.Core.Path.{refl}
use lib.Bits.{bit_or}
use Rattle.ptacl.specs.Values.{union}
use Rattle.ptacl.proofs.Codes.{of_codes}
use Rattle.ptacl.proofs.DecisionSet.union.Goals as goal

pub returns : goal.returns
returns c = of_codes bit_or union refl c.args.self.code c.args.other.code
