use Rattle.std.proofs.Common.{subst}
use Rattle.lid_top_script.specs.Causes.{Got, Misses}
use Rattle.lid_top_script.specs.Scripts.{rows_limit, vec_reading}
use Rattle.lid_top_script.specs.Wrapped.{Wrapping}
use Rattle.lid_top_script.proofs.Fetched.{made_read, by_within, stopped_here}
use Rattle.lid_top_held.proofs.held.wrapped_text.Goals as goal

pub returns-in-Ok : goal.returns-in-Ok
returns-in-Ok g c =
    let held = g.S.Shelf.held c.args.shelf.now in
    let got = subst (λ (w : Wrapping). Got held c.args.asked.now.vec.now rows_limit (vec_reading w.design) c.in-Ok.rows.rows) c.wrapped.view_is c.in-Ok.ensures.ok in
    by_within (made_read _ c.in-Ok.rows.rows got c.in-Ok.ensures.fetched c.in-Ok.ensures.kept) c.fed_text.ensures

pub returns-in-Err : goal.returns-in-Err
returns-in-Err g c =
    let held = g.S.Shelf.held c.args.shelf.now in
    let before = g.S.Shelf.faults c.args.shelf.now in
    let after = g.S.Shelf.faults c.read_file.new.shelf in
    let misses = subst (λ (w : Wrapping). Misses held c.args.asked.now.vec.now rows_limit (vec_reading w.design) before after c.in-Err.stop) c.wrapped.view_is c.in-Err.ensures.err in
    stopped_here _ _ misses c.in-Err.ensures.fetched c.in-Err.ensures.kept c.in-Err.ensures.grows
