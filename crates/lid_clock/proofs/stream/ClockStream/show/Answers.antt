-- A station shows what stands in it.
use Rattle.std.proofs.Common.{◌∙◌, arith}
use Rattle.lid_clock.proofs.Told.{shown_is, station_there}
use Rattle.lid_base.proofs.Places.{item_read}
use Rattle.lid_clock.proofs.stream.ClockStream.show.Goals as goal

pub index-requires : goal.index-requires
index-requires c =
    let within = station_there c.requires.0 c.requires.1 c.requires.2 c.args.self.now c.args.station c.requires.3 c.requires.4 in
    let many = c.args.self.now.stations.ok.0 in
    omega arith

pub returns : goal.returns
returns c = λ l k g ran.
    let within = station_there c.requires.0 c.requires.1 c.requires.2 c.args.self.now c.args.station c.requires.3 c.requires.4 in
    let there = item_read c.args.self.now.stations.items c.args.station c.index.result.now within c.index.ensures in
    c.shown.ensures ∙ shown_is l c.args.station _ _ c.index.result.now (ran.all_stations.each c.args.station c.index.result.now there)
