use Rattle.std.proofs.Common.{◌≡◌, length}
use Rattle.lid_strict.specs.Layouts.{HasRun}
use Rattle.lid_strict.proofs.simulation.run_rows.Given as goal

abbrev pub invariant-loop-t : goal.invariant-loop-t
invariant-loop-t g l =
    (length l.state ≡ length l.run.layout.now.held.items)
    × (length l.inputs ≡ length l.run.layout.now.places.items)
    × (length l.bits ≡ l.run.layout.now.program.nets)
    × (length l.out ≡ length l.run.outs.now)
    × (g.W.RowStore.form l.into ≡ g.W.RowStore.form l.fn.into)
    × HasRun l.run.layout.now l.run.outs.now (g.R.RowSource.rows l.run.rows.now) l.t l.state (g.W.RowStore.has l.into)
