-- A run that starts is one of some life.
use Rattle.std.proofs.Common.{sym, subst}
use Rattle.lid_stations.specs.Placed.{Placing}
use Rattle.lid_clock.specs.Ran.{lent, IsFirstRow}
use Rattle.lid_clock_flat.proofs.Beginning.{built}
use Rattle.lid_clock_flat.proofs.run.FlatRun.start.Goals as goal

pub of-requires : goal.of-requires
of-requires c =
    let s = c.placed.inside.system.now in
    let is = c.placed.invariant in
    let first = subst (λ (v : Placing). IsFirstRow v.system c.args.rows (lent c.args.first)) (sym c.placed.view_is) c.requires.first in
    built s c.placed.inside.placement.now c.args.rows (lent c.args.first) is.formed is.fits c.requires.few first (c.systems_have_one_table.ensures.some s is.formed) c.in_ok-stream.stream c.len.result c.in_ok-stream.ensures c.len.ensures
