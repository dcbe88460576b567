use Rattle.lid_base.proofs.Results.{on_ok}
use Rattle.lid_emit_cells.proofs.Outers.{four_done}
use Rattle.lid_emit_cells.proofs.pen.Pen.push_four.Goals as goal

pub returns : goal.returns
returns c = on_ok c.push_stop.result (λ h q is. four_done q c.args.outer.now is c.args.self.now c.push_constant.new.self c.push_constant-2.new.self c.push_valid.new.self c.push_stop.new.self c.in_ok-push_constant.ensures c.in_ok-push_constant-2.ensures (c.in_ok-push_valid.ensures q is) (h q is)) c.push_stop.ensures
