use Rattle.lid_base.proofs.Results.{on_ok}
use Rattle.lid_emit_cells.proofs.Outers.{outer_done}
use Rattle.lid_emit_cells.proofs.pen.Pen.push_outer.Goals as goal

pub returns : goal.returns
returns c = on_ok c.push_showns.result (λ h q is. outer_done q c.args.outer.now is c.args.self.now c.push_givens.new.self c.push_four.new.self c.push_showns.new.self (c.in_ok-push_givens.ensures q is) (c.in_ok-push_four.ensures q is) (h q is)) c.push_showns.ensures
