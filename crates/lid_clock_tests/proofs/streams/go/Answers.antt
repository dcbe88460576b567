use Rattle.std.proofs.Common.{suc, arith}
use Rattle.lid_clock_tests.proofs.streams.go.Goals as goal

pub cycle-requires : goal.cycle-requires
cycle-requires c =
    let l = c.requires.0 in
    let k = c.requires.1 in
    let fed = c.feed-now.ensures l k c.requires.2 c.requires.4 in
    (l, k, c.feed-now.result, fed.0, fed.1)

pub returns-then-cycle : goal.returns-then-cycle
returns-then-cycle c =
    let l = c.requires.0 in
    let k = c.requires.1 in
    let fed = c.feed-now.ensures l k c.requires.2 c.requires.4 in (
      l,
      suc k,
      c.requires.2,
      λ j late. c.requires.3 j (omega (arith, late)),
      c.cycle.ensures.ran l k c.feed-now.result fed.0 (c.requires.3 k (omega arith)) c.if-cycle.true,
    )
