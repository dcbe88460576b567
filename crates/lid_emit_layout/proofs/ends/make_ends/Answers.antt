-- All stations are joined to actors that had none.
use Rattle.lid_emit_layout.proofs.Joining.{none_yet}
use Rattle.lid_emit_layout.proofs.ends.make_ends.Goals as goal

pub returns-clause-joined : goal.returns-clause-joined
returns-clause-joined c = λ q are. c.in_ok-join_all.ensures.joined q are (none_yet q c.args.actors c.in_ok-ends.ends.items c.in_ok-ends.ensures)
