-- `DecisionSet::and` meets its contract: its table is right at all 64 pairs of codes.
use mathlib.Core.Path.{refl}
use Rattle.ptacl.specs.Value.{and_v}
use Rattle.ptacl.specs.Values.{each2}
use Rattle.ptacl.specs.declared.TheConstants.{CONJUNCTION}
use Rattle.ptacl.proofs.Codes.{of_table}
use Rattle.ptacl.proofs.DecisionSet.and.Goals as goal

pub returns : goal.returns
returns c = rw c.from.ensures (of_table CONJUNCTION (each2 and_v) refl c.args.self.code c.args.other.code)
