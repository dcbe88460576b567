use Rattle.std.proofs.Common.{Err, subst}
use Rattle.lid_top_script.specs.Scripts.{Script}
use Rattle.lid_top_script.specs.Whole.{RunsBy}
use Rattle.lid_top_script.proofs.Fetched.{made_wrapped, by_within, stopped_unwrapped}
use Rattle.lid_top_held.proofs.Scripted.{after_wrapped, asked_is}
use Rattle.lid_top_held.proofs.held.run_text.Goals as goal

pub returns-in-Ok : goal.returns-in-Ok
returns-in-Ok g c =
    let s = g.S.Shelf in
    let old = c.args.shelf.now in
    let new = c.wrapped_text.new.shelf in
    subst (λ (script : Script). RunsBy s.whole (s.held old) (s.held new) script (s.fetches old) (s.fetches new) (s.faults old) (s.faults new) c.wrapped_text.result) (asked_is c.args.asked.now)
    (by_within (made_wrapped (after_wrapped c.args.asked.now) _ c.in-Ok.ensures.ok c.in-Ok.ensures.fetched c.in-Ok.ensures.kept) c.wrapped_text.ensures)

pub returns-in-Err : goal.returns-in-Err
returns-in-Err g c =
    let s = g.S.Shelf in
    let old = c.args.shelf.now in
    let new = c.read_wrapped.new.shelf in
    subst (λ (script : Script). RunsBy s.whole (s.held old) (s.held new) script (s.fetches old) (s.fetches new) (s.faults old) (s.faults new) (Err c.in-Err.stop)) (asked_is c.args.asked.now)
    (stopped_unwrapped (after_wrapped c.args.asked.now) c.in-Err.ensures.err c.in-Err.ensures.fetched c.in-Err.ensures.kept c.in-Err.ensures.grows)
