use Rattle.std.proofs.Common.{◌∙◌}
use Rattle.lid_walk.proofs.Stepping.{has_place}
use Rattle.lid_base.proofs.Places.{item_read}
use Rattle.lid_walk.proofs.walk.Walk.fired.Goals as goal

pub returns : goal.returns
returns c m st walks =
    c.fired.ensures ∙ (walks.actors.each c.args.actor c.index.result.now (item_read c.args.self.now.actors.items c.args.actor c.index.result.now (has_place c.args.self.now c.args.actor c.requires) c.index.ensures)).at.fired_is
