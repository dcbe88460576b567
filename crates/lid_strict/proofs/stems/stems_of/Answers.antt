use Rattle.std.proofs.Common.{◌<◌, ◌≤◌, ℕ, List, length, map, get_or, ◌∙◌, ap, subst, arith}
use Rattle.std.proofs.Math.ListN.{length-set}
use Rattle.std.proofs.lemmas.List.{take_all}
use Rattle.lid_base.proofs.Lists.{all_at}
use Rattle.lid_check_parts.specs.Parts.{HasCover}
use Rattle.lid_strict.specs.Stems.{stem_by, unbuffered_driver, AreStems}
use Rattle.lid_strict.proofs.Stemming.{stems_next}
use Rattle.lid_strict.proofs.Layouts.{number_below, driver_there, driver_same}
use Rattle.lid_strict.proofs.stems.stems_of.Goals as goal

pub bounds-drivers-number : goal.bounds-drivers-number
bounds-drivers-number c = number_below c.args.design.now c.args.drivers.now c.args.order.now c.requires.ordered c.loop-number.number-index c.loop-number-test.true

pub find_stem-stem-requires : goal.find_stem-stem-requires
find_stem-stem-requires c =
    all_at (HasCover c.args.design.now) c.args.drivers.now (get_or c.args.order.now c.loop-number.number-index 0) c.index-drivers-number.result c.requires.covers
    (driver_there c.args.design.now c.args.drivers.now c.args.order.now c.requires.ordered c.loop-number.number-index c.loop-number-test.true c.index-drivers-number.result c.index-drivers-number.is)

pub index_mut-requires : goal.index_mut-requires
index_mut-requires c =
    let below : get_or c.args.order.now c.loop-number.number-index 0 < length c.args.drivers.now =
    number_below c.args.design.now c.args.drivers.now c.args.order.now c.requires.ordered c.loop-number.number-index c.loop-number-test.true in
    let long = c.loop-number.invariant.0 in
    omega arith

pub loop-number-preserved : goal.loop-number-preserved
loop-number-preserved c =
    let d = c.args.design.now in
    let order = c.args.order.now in
    let drivers = c.args.drivers.now in
    let i = c.loop-number.number-index in
    let h = c.loop-number-test.true in
    let k = get_or order i 0 in
    let stems = c.loop-number.stems.items in
    let driver = c.index-drivers-number.result in
    let v = c.find_stem-stem.result in
    let long = c.loop-number.invariant.0 in
    let below : k < length drivers = number_below d drivers order c.requires.ordered i h in
    let room : k < length stems = omega arith in (
      length-set stems k v ∙ long,
      stems_next (map (unbuffered_driver d) drivers) order c.requires.ordered i h stems v room
          (c.find_stem-stem.ensures
          ∙ ap (λ (ns : List ℕ). stem_by ns k (unbuffered_driver d driver)) c.as_slice.ensures.value
          ∙ ap (stem_by stems k) (driver_same d drivers order c.requires.ordered i h driver c.index-drivers-number.is))
          c.loop-number.invariant.1,
    )

pub returns : goal.returns
returns c =
    let past : length c.args.order.now ≤ c.loop-number.number-index = omega arith in
    subst (λ (ks : List ℕ). AreStems (map (unbuffered_driver c.args.design.now) c.args.drivers.now) ks c.loop-number.stems.items) (take_all c.loop-number.number-index c.args.order.now past)
    c.loop-number.invariant.1
