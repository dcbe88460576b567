use Rattle.std.proofs.Common.{Option, length, set, get_or, refl, ap}
use Rattle.lid_net.specs.declared.origin.Origin.{Origin}
use Rattle.std.proofs.lemmas.List.{take_all}
use Rattle.lid_net.proofs.Stepping.{item_within, item_there, covered_at, driver_there, led_more, led_first, led_all}
use Rattle.lid_net.proofs.leading.lead_back.Goals as goal

pub bounds-drivers-k : goal.bounds-drivers-k
bounds-drivers-k c = item_within c.args.drivers.now c.args.order.now c.loop-number.number-index c.requires.ordered c.loop-number-test.true

pub found_origin-origin-requires-clause-cover : goal.found_origin-origin-requires-clause-cover
found_origin-origin-requires-clause-cover c =
    covered_at c.args.design.now c.args.drivers.now _ c.index-drivers-k.result c.requires.covers
    (item_within c.args.drivers.now c.args.order.now c.loop-number.number-index c.requires.ordered c.loop-number-test.true) c.index-drivers-k.is

pub found_origin-origin-requires-clause-there : goal.found_origin-origin-requires-clause-there
found_origin-origin-requires-clause-there c =
    item_there c.args.drivers.now c.args.order.now c.loop-number.number-index (length c.loop-number.origins) c.requires.ordered c.loop-number-test.true c.loop-number.invariant.size

pub bounds-origins-k : goal.bounds-origins-k
bounds-origins-k c =
    item_there c.args.drivers.now c.args.order.now c.loop-number.number-index (length c.loop-number.origins) c.requires.ordered c.loop-number-test.true c.loop-number.invariant.size

pub loop-number-init : goal.loop-number-init
loop-number-init c = led_first c.args.design.now c.args.drivers.now c.args.order.now c.args.origins.now c.requires.size

pub loop-number-preserved : goal.loop-number-preserved
loop-number-preserved c =
    let less = item_within c.args.drivers.now c.args.order.now c.loop-number.number-index c.requires.ordered c.loop-number-test.true in
    led_more c.args.design.now c.args.drivers.now c.args.order.now c.loop-number.number-index _ c.args.origins.now c.loop-number.origins _ c.index-drivers-k.result
    c.loop-number.invariant c.requires.ordered c.loop-number-test.true refl
    (driver_there c.args.drivers.now _ c.index-drivers-k.result less c.index-drivers-k.is)
    (ap (λ (o : Option Origin). set c.loop-number.origins (get_or c.args.order.now c.loop-number.number-index 0) o) c.found_origin-origin.ensures)

pub returns-clause-origins : goal.returns-clause-origins
returns-clause-origins c =
    led_all c.args.design.now c.args.drivers.now c.args.order.now c.loop-number.number-index c.args.origins.now c.loop-number.origins c.loop-number.invariant c.requires.ordered
    (take_all c.loop-number.number-index c.args.order.now c.loop-number-test.false)
