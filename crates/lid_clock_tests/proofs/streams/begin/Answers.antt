use Rattle.lid_clock_tests.proofs.streams.begin.Goals as goal

pub returns-then-cycle_held : goal.returns-then-cycle_held
returns-then-cycle_held c =
    let l = c.requires.0 in
    let ran = (c.feed-now.ensures l 0 c.requires.1 c.requires.4).0 in
    (l, 1, c.requires.1, c.requires.3, c.cycle_held.ensures.ran l 0 c.feed-now.result ran c.requires.2 c.if-cycle_held.true)
