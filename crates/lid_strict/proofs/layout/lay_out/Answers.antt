use Rattle.std.proofs.Common.{◌<◌, ℕ, map, slice_index_or, sym, ◌∙◌, subst}
use Rattle.std.specs.List.{AllByRecursion}
use Rattle.lid_base.proofs.Lists.{all_at}
use Rattle.lid_design.specs.Feeds.{read_now}
use Rattle.lid_design.specs.Flat.{latch_out, latch_init}
use Rattle.lid_check_parts.specs.Parts.{HasCover}
use Rattle.lid_strict.specs.Stems.{stem_at, stem_covers, latch_stem, unbuffered_driver}
use Rattle.lid_strict.specs.Layouts.{input_nets, input_places}
use Rattle.lid_strict.proofs.Layouts.{laid_next, latches_next, number_below, driver_there, driver_same, reads_within}
use Rattle.lid_strict.proofs.layout.lay_out.Goals as goal

pub bounds-drivers-number : goal.bounds-drivers-number
bounds-drivers-number c = number_below c.args.design.now c.args.drivers.now c.args.order.now c.requires.ordered c.loop-number.number-index c.loop-number-test.true

pub push_driver-requires-clause-number : goal.push_driver-requires-clause-number
push_driver-requires-clause-number c =
    let nets = c.loop-number.invariant.2 in
    let below = number_below c.args.design.now c.args.drivers.now c.args.order.now c.requires.ordered c.loop-number.number-index c.loop-number-test.true in
    subst (λ (n : ℕ). slice_index_or c.args.order.now c.loop-number.number-index 0 < n) (sym nets) below

pub push_driver-requires-clause-reads : goal.push_driver-requires-clause-reads
push_driver-requires-clause-reads c =
    subst (λ (n : ℕ). AllByRecursion (λ a. a < n) (map (stem_at c.args.stems.now) (read_now (unbuffered_driver c.args.design.now c.index-drivers-number.result)))) (sym c.loop-number.invariant.2)
    (reads_within c.args.design.now c.args.drivers.now c.args.order.now c.requires.ordered c.loop-number.number-index c.loop-number-test.true c.index-drivers-number.result c.index-drivers-number.is c.args.stems.now c.requires.stems)

pub push_driver-requires-clause-cover : goal.push_driver-requires-clause-cover
push_driver-requires-clause-cover c =
    all_at (HasCover c.args.design.now) c.args.drivers.now (slice_index_or c.args.order.now c.loop-number.number-index 0) c.index-drivers-number.result c.requires.covers
    (driver_there c.args.design.now c.args.drivers.now c.args.order.now c.requires.ordered c.loop-number.number-index c.loop-number-test.true c.index-drivers-number.result c.index-drivers-number.is)

pub loop-number-preserved : goal.loop-number-preserved
loop-number-preserved c =
    let i = c.loop-number.number-index in
    let h = c.loop-number-test.true in
    let shown = unbuffered_driver c.args.design.now in
    let s = shown c.index-drivers-number.result in
    let network = map shown c.args.drivers.now in
    let same = driver_same c.args.design.now c.args.drivers.now c.args.order.now c.requires.ordered i h c.index-drivers-number.result c.index-drivers-number.is in
    let so_far = c.loop-number.invariant in
    let new = c.in_ok-push_driver.ensures in (
      new.none,
      new.program,
      new.nets ∙ so_far.2,
      laid_next (stem_covers c.args.stems.now) network c.args.order.now i h s same _ _ so_far.3 new.covers,
      laid_next input_nets network c.args.order.now i h s same _ _ so_far.4 new.ins,
      laid_next (λ k r. input_places r) network c.args.order.now i h s same _ _ so_far.5 new.places,
      latches_next latch_out network c.args.order.now i h s same _ _ so_far.6 new.held,
      latches_next (latch_stem c.args.stems.now) network c.args.order.now i h s same _ _ so_far.7 new.taken,
      latches_next latch_init network c.args.order.now i h s same _ _ so_far.8 new.first,
    )
