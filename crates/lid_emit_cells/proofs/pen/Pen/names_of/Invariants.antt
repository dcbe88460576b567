use Rattle.std.proofs.Common.{◌≡◌, ◌++◌, map, drop}
use Rattle.lid_emit_cells.specs.Drafts.{name_at}
use Rattle.lid_emit_cells.proofs.pen.Pen.names_of.Given as goal

abbrev pub invariant-loop-wire : goal.invariant-loop-wire
invariant-loop-wire l = l.names.items ++ map (name_at l.self) (drop l.wire-index l.wires) ≡ map (name_at l.self) l.fn.wires
