-- A cycle that is needed is made, and then kept.
use Rattle.lid_clock.proofs.Steps.{one_cycled}
use Rattle.lid_parclock.proofs.run.go_on.Goals as goal

pub cycle_on-requires-clause-can : goal.cycle_on-requires-clause-can
cycle_on-requires-clause-can g c κs within =
    let q = c.requires.run in
    let fed = c.ready.ensures.ran q.0 q.1 q.2 in
    (q.0, q.1, c.ready.new.self.given, fed.0.ran, fed.1)

pub keep-requires : goal.keep-requires
keep-requires g c =
    let (l, k, start) = c.requires.run in
    let goes = (c.ready.ensures.ran l k start).0 in
    let below = (c.ready.ensures.below l k start).0 c.if-not-ready.false in
    (l, k, one_cycled l k c.ready.new.self c.cycle_on.new.stream _ goes below c.cycle_on.ensures.made c.cycle_on.ensures.ran)

pub returns-clause-made : goal.returns-clause-made
returns-clause-made g c l k start _ =
    let goes = (c.ready.ensures.ran l k start).0 in
    let below = (c.ready.ensures.below l k start).0 c.if-not-ready.false in
    c.keep.ensures l k (one_cycled l k c.ready.new.self c.cycle_on.new.stream _ goes below c.cycle_on.ensures.made c.cycle_on.ensures.ran)
