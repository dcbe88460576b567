use Rattle.std.proofs.Common.{refl, arith}
use Rattle.lid_base.proofs.Results.{on_ok}
use Rattle.lid_emit_circuit.specs.Wires as circuit
use Rattle.lid_emit_cells.specs.Drafts.{name_on}
use Rattle.lid_emit_cells.proofs.Drafting.{one_wire}
use Rattle.lid_emit_cells.proofs.Sources.{last_place, some_place}
use Rattle.lid_emit_cells.proofs.pen.Pen.push_place.Goals as goal

pub returns-then-i-station : goal.returns-then-i-station
returns-then-i-station c = on_ok c.push_constant.result (λ h q is. one_wire q c.args.self.now c.push_constant.new.self (circuit.place c.args.s c.args.i c.args.j) _ h (last_place q (name_on c.args.self.now) c.args.s c.args.station.now is c.args.j c.args.bit c.requires.bit c.args.i c.if-i-station.true)) c.push_constant.ensures

pub returns : goal.returns
returns c = on_ok c.push_latch.result (λ h q is. one_wire q c.args.self.now c.push_latch.new.self (circuit.place c.args.s c.args.i c.args.j) _ h (some_place q (name_on c.args.self.now) c.args.s c.args.station.now is c.args.j c.args.bit c.requires.bit c.args.i (omega (arith, c.requires.within, c.if-i-station.false)))) c.push_latch.ensures
