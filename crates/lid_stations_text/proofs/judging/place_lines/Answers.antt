use Rattle.std.proofs.Common.{◌∙◌, arith}
use Rattle.lid_stations.specs.Placements.{links_of}
use Rattle.lid_stations_text.proofs.LineFaults.{is_channel, placed_next, after_line}
use Rattle.lid_stations_text.proofs.judging.place_lines.Goals as goal

pub offset_bounds-places-channel : goal.offset_bounds-places-channel
offset_bounds-places-channel c =
    let h = is_channel (links_of c.args.system.now) c.index-lines-i.result.words c.in-Ok.channel c.in-Ok.ensures.channel in
    let few = c.requires.system.few in
    omega arith

pub bounds-places-channel : goal.bounds-places-channel
bounds-places-channel c =
    let h = is_channel (links_of c.args.system.now) c.index-lines-i.result.words c.in-Ok.channel c.in-Ok.ensures.channel in
    let long = c.loop-i.invariant.placed.long in
    omega arith

pub loop-i-preserved : goal.loop-i-preserved
loop-i-preserved c =
    let l = links_of c.args.system.now in
    record {
      placed = placed_next l c.args.lines.now c.loop-i.i c.index-lines-i.result c.loop-i.places c.in-Ok.channel c.loop-i-test.true c.index-lines-i.is c.loop-i.invariant.placed c.in-Ok.ensures.channel c.in-Ok.ensures.free;
      left = after_line l c.args.form c.args.lines.now c.loop-i.i c.index-lines-i.result c.loop-i-test.true c.index-lines-i.is (c.in-Ok.ensures.ok _ c.loop-i.invariant.placed) ∙ c.loop-i.invariant.left;
    }
