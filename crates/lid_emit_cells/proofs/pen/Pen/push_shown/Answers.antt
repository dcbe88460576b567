use Rattle.std.proofs.Common.{refl, ◌∙◌, ap}
use Rattle.std.specs.Prelude.{option_map}
use Rattle.std.proofs.lemmas.Option.{slice_get-map}
use Rattle.lid_base.proofs.Results.{on_ok}
use Rattle.lid_emit_circuit.specs.Wires as circuit
use Rattle.lid_emit_cells.specs.Drafts.{name_on}
use Rattle.lid_emit_cells.proofs.Drafting.{one_wire}
use Rattle.lid_emit_cells.specs.Shown.{wire_of}
use Rattle.lid_emit_cells.proofs.Outers.{shown_is}
use Rattle.lid_emit_cells.proofs.pen.Pen.push_shown.Goals as goal

pub returns : goal.returns
returns c = on_ok c.push_gate.result (λ h q is. one_wire q c.args.self.now c.push_gate.new.self (circuit.shown c.args.j) _ h (shown_is q (name_on c.args.self.now) c.args.outer.now is c.args.j (wire_of c.args.wire) (slice_get-map wire_of c.args.outer.now.shows c.args.j ∙ ap (option_map wire_of) c.requires))) c.push_gate.ensures
