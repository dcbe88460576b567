-- A station shows what stands in it.
use Rattle.std.proofs.Common.{◌<◌, length, ◌∙◌, arith}
use Rattle.lid_base.proofs.Places.{item_at}
use Rattle.lid_clock_flat.proofs.Told.{shown_is}
use Rattle.lid_clock_flat.proofs.run.FlatRun.show.Goals as goal

pub returns : goal.returns
returns c = λ l k g ran.
    let q = c.requires in
    let s = c.args.self.now.stations in
    let count = q.3.all_stations.many in
    let within : c.args.station < length s.all.items = omega (arith, q.4) in
    let here = item_at s.all.items c.args.station within in
    c.shown.ensures here.0 here.1 ∙ shown_is l k c.args.station s.places.items here.0 (ran.all_stations.each c.args.station here.0 here.1)
