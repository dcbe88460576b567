use Rattle.lid_top_held.proofs.Feeding.{wide_inside}
use Rattle.lid_top_held.proofs.Lifetimes.{wide_rows}
use Rattle.lid_top_held.proofs.dumping.trace_of.Goals as goal

pub start_over-requires-clause-wide : goal.start_over-requires-clause-wide
start_over-requires-clause-wide c = wide_rows c.wrapped.inside.checked c.wrapped.inside.system c.wrapped.invariant.of c.args.fed.now.rows.now.rows (wide_inside c.wrapped.view_is c.args.fed.now.rows.now.rows c.args.fed.now.wide)
