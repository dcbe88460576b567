use Rattle.lid_clock.proofs.Steps.{one_cycled}
use Rattle.lid_clock.proofs.clocked.Clocked.cycle.Goals as goal

pub keep-requires : goal.keep-requires
keep-requires c =
    let (l, k, start) = c.requires in
    let goes = (c.ready.ensures.ran l k start).0 in
    let below = (c.ready.ensures.below l k start).0 c.if-not-ready.false in
    (l, k, one_cycled l k c.ready.new.self c.cycle.new.self _ goes below c.cycle.ensures.made c.cycle.ensures.ran)

pub returns-clause-made : goal.returns-clause-made
returns-clause-made c l k start _ =
    let goes = (c.ready.ensures.ran l k start).0 in
    let below = (c.ready.ensures.below l k start).0 c.if-not-ready.false in
    c.keep.ensures l k (one_cycled l k c.ready.new.self c.cycle.new.self _ goes below c.cycle.ensures.made c.cycle.ensures.ran)
