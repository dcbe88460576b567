use Rattle.std.proofs.Common.{refl}
use Rattle.lid_emit_layout.proofs.Places.{site_there}
use Rattle.lid_emit_layout.proofs.sites.site_at.Goals as goal

pub returns : goal.returns
returns c = λ s p is there stands. (refl, site_there s p c.args.graph.now c.args.station c.args.channel c.args.place c.edge_along-along.result is there stands c.edge_along-along.ensures)
