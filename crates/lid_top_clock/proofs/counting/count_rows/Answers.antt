use Rattle.std.proofs.Common.{ℕ, length, Err, refl, sym, ap, subst}
use Rattle.lid_top_clock.specs.Clocking.{FileHasRows}
use Rattle.lid_top_clock.specs.Stops.{stop_of_feed}
use Rattle.lid_top_script.specs.Scripts.{rows_limit, vec_reading}
use Rattle.lid_top_script.specs.Causes.{Misses}
use Rattle.lid_top_script.specs.FetchSteps.{FetchesFile}
use Rattle.lid_top_script.specs.declared.fault.Stop.{Stop}
use Rattle.lid_top_script.specs.Wrapped.{Wrapping}
use Rattle.lid_top_clock.proofs.Fetched.{has_rows, misses, counts_so, counts_not}
use Rattle.lid_top_clock.proofs.counting.count_rows.Goals as goal

pub returns-in-Ok-clause-ok : goal.returns-in-Ok-clause-ok
returns-in-Ok-clause-ok g c =
    let held = g.S.Shelf.held c.args.shelf.now in
    subst (λ (w : Wrapping). FileHasRows held w.design c.args.vec.now c.in-Ok.count) c.wrapped.view_is
    (has_rows held c.wrapped.inside.checked c.args.vec.now c.inputs.result.now (length c.outputs.result.now) c.inputs.ensures.names (ap length c.outputs.ensures.names)
    c.in-Ok.count c.in-Ok.ensures.counted)

pub returns-in-Err-clause-err : goal.returns-in-Err-clause-err
returns-in-Err-clause-err g c =
    let held = g.S.Shelf.held c.args.shelf.now in
    let before = g.S.Shelf.faults c.args.shelf.now in
    let after = g.S.Shelf.faults c.count_rows.new.shelf in
    subst (λ s. Misses held c.args.vec.now rows_limit (vec_reading c.args.wrapped.now.design) before after s) (sym c.feed_stop.ensures)
    (subst (λ (w : Wrapping). Misses held c.args.vec.now rows_limit (vec_reading w.design) before after (stop_of_feed c.args.vec c.in-Err.fault)) c.wrapped.view_is
    (misses held c.wrapped.inside.checked c.args.vec.now c.inputs.result.now (length c.outputs.result.now) c.inputs.ensures.names (ap length c.outputs.ensures.names)
    c.args.vec before after c.in-Err.fault refl c.in-Err.ensures.failed c.in-Err.ensures.refused))

pub returns-in-Ok-clause-fetched : goal.returns-in-Ok-clause-fetched
returns-in-Ok-clause-fetched g c = counts_so c.in-Ok.count c.in-Ok.ensures.came c.in-Ok.ensures.still

pub returns-in-Err-clause-fetched : goal.returns-in-Err-clause-fetched
returns-in-Err-clause-fetched g c =
    let name = c.args.vec.now in
    let old = c.args.shelf.now in
    let new = c.count_rows.new.shelf in
    subst (λ (s : Stop). FetchesFile {A = ℕ} g.S.Shelf.whole (g.S.Shelf.held old name) name rows_limit (g.S.Shelf.fetches old) (g.S.Shelf.fetches new) (g.S.Shelf.faults old) (g.S.Shelf.faults new) (Err s)) (sym c.feed_stop.ensures)
    (counts_not c.args.vec c.in-Err.fault c.in-Err.ensures.begun c.in-Err.ensures.wanting)
