use Rattle.std.proofs.Common.{suc}
use Rattle.lid_clock.proofs.Steps.{one_cycled}
use Rattle.lid_clock_tests.proofs.at_hand.cycle_by_parts.Goals as goal

pub keep-requires : goal.keep-requires
keep-requires c =
    let (l, k, start) = c.requires in
    let goes = (c.ready.ensures.ran l k start).0 in
    let below = (c.ready.ensures.below l k start).0 c.if-ready.true in
    (l, k, one_cycled l k c.ready.new.self c.cycle.new.self _ goes below c.cycle.ensures.made c.cycle.ensures.ran)

pub returns-then-ready : goal.returns-then-ready
returns-then-ready c =
    let (l, k, start) = c.requires in
    let goes = (c.ready.ensures.ran l k start).0 in
    let below = (c.ready.ensures.below l k start).0 c.if-ready.true in
    (l, suc k, c.keep.ensures l k (one_cycled l k c.ready.new.self c.cycle.new.self _ goes below c.cycle.ensures.made c.cycle.ensures.ran))
