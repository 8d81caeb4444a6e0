-- One node a turn.
use Prim.Native.Nat.{◌-◌, ◌≤◌}
use mathlib.Core.Path.{◌≡◌}
use lib.ListN.{length, take}
use Rattle.ptacl.specs.Term.{policy}
use Rattle.files.specs.Prefix.{scan}
use Rattle.files.specs.ReadPolicy.{in_bytes}
use Rattle.files.specs.Reading.{told, nothing}
use Rattle.flat.proofs.Reading.{Loop}
use Rattle.flat.proofs.read.read_nodes.Given as goal

abbrev pub invariant-loop-due : goal.invariant-loop-due
invariant-loop-due l = record {
  few : l.count ≤ 255;
  low : l.top ≤ 32;
  size : length l.later ≡ 32;
  same : l.reader.bytes ≡ l.fn.reader.bytes;
  loop : Loop (told nothing (scan (in_bytes 255 l.fn.reader.bytes) 32 policy tt l.fn.reader.at l.fn.reader.nodes)) l.reader (take l.count l.places) l.due (take l.top l.later);
}

abbrev pub decreases-loop-due : goal.decreases-loop-due
decreases-loop-due l = 255 - l.count
