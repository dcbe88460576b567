use Rattle.std.proofs.Common.{sym, subst}
use Rattle.lid_top_script.specs.Scripts.{Script}
use Rattle.lid_top_script.specs.Whole.{RunsBy}
use Rattle.lid_top_script.proofs.Fetched.{made_same, by_anywhere}
use Rattle.lid_top_held.specs.declared.run.Fed.{Fed}
use Rattle.lid_top_held.specs.declared.run.HeldRun.{HeldRun}
use Rattle.lid_top_held.specs.Runs.{fed_script}
use Rattle.lid_top_held.proofs.Scripted.{freeing_fetches_nothing, waving_fetches_nothing}
use Rattle.lid_top_held.proofs.held.fed_text.Goals as goal

abbrev left : HeldRun → Fed → Script
left run f = fed_script run f.wrapped.now f.rows.now.rows

pub returns-in-Free : goal.returns-in-Free
returns-in-Free g c =
    let held = g.S.Shelf.held c.args.shelf.now in
    let calls = g.S.Shelf.fetches c.args.shelf.now in
    let faults = g.S.Shelf.faults c.args.shelf.now in
    subst (λ (run : HeldRun). RunsBy g.S.Shelf.whole held held (left run c.args.fed.now) calls calls faults faults c.freed_text.result) (sym c.in-Free.is)
    (by_anywhere made_same (freeing_fetches_nothing _ _ _ _ _ _ _) c.freed_text.ensures)

pub returns-in-Wave : goal.returns-in-Wave
returns-in-Wave g c =
    let held = g.S.Shelf.held c.args.shelf.now in
    let calls = g.S.Shelf.fetches c.args.shelf.now in
    let faults = g.S.Shelf.faults c.args.shelf.now in
    subst (λ (run : HeldRun). RunsBy g.S.Shelf.whole held held (left run c.args.fed.now) calls calls faults faults c.waved_text.result) (sym c.in-Wave.is)
    (by_anywhere made_same (waving_fetches_nothing _ _ _ _ _) c.waved_text.ensures)
