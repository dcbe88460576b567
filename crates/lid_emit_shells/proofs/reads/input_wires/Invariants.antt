use Rattle.std.proofs.Common.{◌≡◌, ◌++◌, map, drop}
use Rattle.lid_emit_shells.specs.Reading.{wire_by}
use Rattle.lid_emit_shells.proofs.reads.input_wires.Given as goal

abbrev pub invariant-loop-read : goal.invariant-loop-read
invariant-loop-read l = l.wires.items ++ map (wire_by l.lasts) (drop l.read-index l.reads) ≡ map (wire_by l.lasts) l.reads
