use Rattle.std.proofs.Common.{◌≡◌, ℕ, ◌++◌, map, drop}
use Rattle.lid_emit_circuit.specs.Wires as circuit
use Rattle.lid_emit_cells.specs.Shown.{wire_of}
use Rattle.lid_emit_cells.specs.Matches.{AreWires}
use Rattle.lid_emit_cells.proofs.shell.wires_at.Given as goal

abbrev pub invariant-loop-net : goal.invariant-loop-net
invariant-loop-net l = ((wire : ℕ → circuit.Wire) → AreWires wire l.fn.wires → map wire_of l.found.items ++ map wire (drop l.net-index l.nets) ≡ map wire l.fn.nets)
