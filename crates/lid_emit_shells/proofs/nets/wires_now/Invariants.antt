use Rattle.std.proofs.Common.{◌≡◌}
use Rattle.lid_base.specs.Each.{from_each}
use Rattle.lid_emit_cells.specs.declared.wire.Wire.TheVariants.{Now}
use Rattle.lid_emit_shells.proofs.nets.wires_now.Given as goal

abbrev pub invariant-loop-k : goal.invariant-loop-k
invariant-loop-k l = l.wires.items ≡ from_each (Now l.v) 0 l.k
