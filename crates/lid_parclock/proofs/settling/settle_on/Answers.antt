-- All have settled where those of each share have.
use Rattle.std.proofs.Common.{◌+◌}
use Rattle.std.proofs.lemmas.Option.{slice_get_within}
use Rattle.lid_clock.specs.States.{Settles}
use Rattle.lid_clock.proofs.Together.{each_can_settle, all_settle}
use Rattle.lid_parclock.proofs.InShares.{among, changed}
use Rattle.lid_parclock.proofs.settling.settle_on.Goals as goal

pub for_each_chunk_mut-requires-clause-accepts : goal.for_each_chunk_mut-requires-clause-accepts
for_each_chunk_mut-requires-clause-accepts g c κs within start share chunk = λ i x here.
    let stations = c.args.stations.now in
    each_can_settle stations c.args.actors.now (start + i) x c.requires.can (among stations share.now c.share_length-size.result start i x chunk here)

pub returns : goal.returns
returns g c =
    let olds = c.args.stations.now in
    let news = c.for_each_chunk_mut.new.s in
    let actors = c.args.actors.now in
    all_settle olds news actors c.for_each_chunk_mut.auto.s
    (λ s x y old new.
    let at = (c.for_each_chunk_mut.ensures.by_index s x (slice_get_within olds s x old)).1 in
    changed (λ a b. Settles a actors b) olds news at.argument.now at.after_call.now s at.offset x y old new
    at.offset_in_chunk at.call.many at.old_element at.new_element (at.call.each at.offset))
