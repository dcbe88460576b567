use Rattle.std.proofs.Common.{◌≡◌, ◌+◌, length, ap, arith}
use Rattle.lid_emit_circuit.specs.Lists.{station_wires}
use Rattle.lid_emit_cells.proofs.Drafting.{no_wires, next_wires}
use Rattle.lid_emit_cells.proofs.Alls.{item_there}
use Rattle.lid_emit_cells.proofs.pen.Pen.push_stations.Goals as goal

pub loop-s-init : goal.loop-s-init
loop-s-init c = λ q is. no_wires q c.args.self.now

pub push_station-requires-clause-small : goal.push_station-requires-clause-small
push_station-requires-clause-small c = (c.requires.stations c.loop-s.s c.index-as_slice-s.result (item_there c.args.all.now.stations c.as_slice.result.now c.loop-s.s c.index-as_slice-s.result c.as_slice.ensures (omega (arith, c.loop-s-test.true, c.len-s-end.ensures, ap length c.as_slice.ensures)) c.index-as_slice-s.is)).0

pub push_station-requires-clause-few : goal.push_station-requires-clause-few
push_station-requires-clause-few c = (c.requires.stations c.loop-s.s c.index-as_slice-s.result (item_there c.args.all.now.stations c.as_slice.result.now c.loop-s.s c.index-as_slice-s.result c.as_slice.ensures (omega (arith, c.loop-s-test.true, c.len-s-end.ensures, ap length c.as_slice.ensures)) c.index-as_slice-s.is)).1

pub loop-s-preserved : goal.loop-s-preserved
loop-s-preserved c = λ q is.
    let number : c.loop-s.s ≡ 0 + c.loop-s.s = omega arith in
    next_wires q c.args.self.now (station_wires q) 0 c.loop-s.s c.loop-s.s c.loop-s.self c.push_station.new.self number (c.loop-s.invariant q is)
    (c.in_ok-push_station.ensures q (is.each_station c.loop-s.s c.index-as_slice-s.result (item_there c.args.all.now.stations c.as_slice.result.now c.loop-s.s c.index-as_slice-s.result c.as_slice.ensures (omega (arith, c.loop-s-test.true, c.len-s-end.ensures, ap length c.as_slice.ensures)) c.index-as_slice-s.is)))
