use Rattle.std.proofs.Common.{refl}
use Rattle.lid_base.proofs.Results.{on_ok}
use Rattle.lid_emit_circuit.specs.Wires as circuit
use Rattle.lid_emit_cells.specs.Drafts.{name_on}
use Rattle.lid_emit_cells.proofs.Drafting.{one_wire}
use Rattle.lid_emit_cells.specs.Shown.{wire_of}
use Rattle.lid_emit_cells.proofs.Sources.{moves_on}
use Rattle.lid_emit_cells.proofs.pen.Pen.push_moved.Goals as goal

pub returns : goal.returns
returns c = on_ok c.push_gate.result (λ h q is. one_wire q c.args.self.now c.push_gate.new.self (circuit.moved c.args.s c.args.i c.args.j) _ h (moves_on q (name_on c.args.self.now) c.args.s c.args.station.now is c.args.j c.args.bit c.requires.bit c.args.i c.requires.within)) c.push_gate.ensures
