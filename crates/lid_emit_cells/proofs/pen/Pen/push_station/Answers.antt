use Rattle.lid_base.proofs.Results.{on_ok}
use Rattle.lid_emit_cells.proofs.Stations.{station_done}
use Rattle.lid_emit_cells.proofs.pen.Pen.push_station.Goals as goal

pub returns : goal.returns
returns c = on_ok c.push_bits.result (λ h q is. station_done q c.args.s c.args.station.now is c.args.self.now c.push_levels.new.self c.push_growns.new.self c.push_bits.new.self (c.in_ok-push_levels.ensures q is) (c.in_ok-push_growns.ensures q is) (h q is)) c.push_bits.ensures
