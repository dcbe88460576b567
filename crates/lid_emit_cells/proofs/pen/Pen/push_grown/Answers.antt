use Rattle.std.proofs.Common.{◌+◌, refl}
use Rattle.lid_base.proofs.Results.{on_ok}
use Rattle.lid_emit_circuit.specs.Wires as circuit
use Rattle.lid_emit_cells.specs.Drafts.{name_on}
use Rattle.lid_emit_cells.proofs.Drafting.{one_wire}
use Rattle.lid_emit_cells.proofs.Sources.{counts_on}
use Rattle.lid_emit_cells.proofs.pen.Pen.push_grown.Goals as goal

pub returns : goal.returns
returns c = on_ok c.push_gate.result (λ h q is. one_wire q c.args.self.now c.push_gate.new.self (circuit.grown c.args.s (c.args.i + 1)) _ h (counts_on q (name_on c.args.self.now) c.args.s c.args.station.now is c.args.i c.requires.within)) c.push_gate.ensures
