use Rattle.std.proofs.Common.{◌+◌, refl}
use Rattle.lid_base.proofs.Results.{on_ok}
use Rattle.lid_emit_circuit.specs.Wires as circuit
use Rattle.lid_emit_cells.specs.Drafts.{name_on}
use Rattle.lid_emit_cells.proofs.Drafting.{one_wire}
use Rattle.lid_emit_cells.proofs.Ends.{drains_on}
use Rattle.lid_emit_cells.proofs.pen.Pen.push_drain.Goals as goal

pub returns : goal.returns
returns c = on_ok c.push_gate.result (λ h q is. one_wire q c.args.self.now c.push_gate.new.self (circuit.may c.args.v (c.args.i + 1)) _ h (drains_on q (name_on c.args.self.now) c.args.v c.args.actor.now is c.args.i c.args.station c.requires.end)) c.push_gate.ensures
