use Rattle.lid_base.proofs.Results.{on_ok}
use Rattle.lid_emit_cells.proofs.Actors.{actor_done}
use Rattle.lid_emit_cells.proofs.pen.Pen.push_actor.Goals as goal

pub returns : goal.returns
returns c = on_ok c.push_fire.result (λ h q is last. actor_done q c.args.v c.args.actor.now is c.args.self.now c.push_links.new.self c.push_fire.new.self (c.in_ok-push_links.ensures q is) (h q is last)) c.push_fire.ensures
