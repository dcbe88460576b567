-- The lists of the actors that fill and drain the station grow by it.
use Rattle.std.proofs.lemmas.Option.{slice_get_read}
use Rattle.std.proofs.Common.{refl, ◌<◌, length, set, arith}
use Rattle.std.proofs.lemmas.List.{length-set}
use Rattle.lid_emit_layout.proofs.Joining.{joins}
use Rattle.lid_emit_layout.proofs.ends.join.Goals as goal

pub returns : goal.returns
returns c =
    let ends = c.args.ends.now.items in
    let x = c.args.station.now in
    let inside : x.drainer < length (set ends x.filler c.fill.new.self) = omega (arith, length-set ends x.filler c.fill.new.self, c.requires.drained) in
    joins ends c.args.number x c.index_mut.result.now c.index_mut-2.result.now c.fill.new.self c.drain.new.self
    (slice_get_read ends _ x.filler c.index_mut.result.now refl c.requires.filled c.index_mut.ensures.value)
    (slice_get_read (set ends x.filler c.fill.new.self) _ x.drainer c.index_mut-2.result.now refl inside c.index_mut-2.ensures.value)
    c.in_ok-fill.ensures.ins c.in_ok-fill.ensures.outs c.in_ok-drain.ensures.ins c.in_ok-drain.ensures.outs
