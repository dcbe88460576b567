use Rattle.lid_base.proofs.Results.{on_ok}
use Rattle.lid_emit_cells.proofs.Alls.{all_done}
use Rattle.lid_emit_cells.proofs.pen.Pen.push_all.Goals as goal

pub returns : goal.returns
returns c = on_ok c.push_shells.result (λ h q is. all_done q c.args.all.now is c.args.self.now c.push_outer.new.self c.push_stations.new.self c.push_actors.new.self c.push_shells.new.self (c.in_ok-push_outer.ensures q is.outer) (c.in_ok-push_stations.ensures q is) (c.in_ok-push_actors.ensures q is) (h q is)) c.push_shells.ensures
