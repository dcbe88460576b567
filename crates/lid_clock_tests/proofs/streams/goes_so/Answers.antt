use Rattle.lid_clock_tests.proofs.streams.goes_so.Goals as goal

pub loop-init : goal.loop-init
loop-init c = c.requires

pub next_line-requires : goal.next_line-requires
next_line-requires c =
    let goes = c.loop.invariant in
    (goes.0, goes.1, c.loop.given, goes.4)

pub go-requires : goal.go-requires
go-requires c = c.loop.invariant

pub loop-preserved : goal.loop-preserved
loop-preserved c = c.in-Some-go.ensures
