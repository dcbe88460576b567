use Rattle.std.proofs.Common.{◌≡◌, ℕ, List, [], length, Some, sym, ◌∙◌, ap, subst}
use Rattle.lid_check.proofs.Sound.{judged_of}
use Rattle.lid_strict.proofs.Accepted.{table_of}
use Rattle.lid_texts_feed.specs.Fetching.{HasGiven}
use Rattle.lid_top_script.specs.Wrapped.{Wrapping}
use Rattle.lid_top_clock.specs.Clocking.{IsCounted}
use Rattle.lid_top_script.specs.Causes.{IsStoppedJob}
use Rattle.lid_top_clock.proofs.Runs.{source_named, runs_whole, runs_in_part, runs_outside, fetched_whole, fetched_in_part, fetched_outside}
use Rattle.lid_top_clock.proofs.Counts.{end_stopped}
use Rattle.lid_top_clock.proofs.Feedings.{fed_first}
use Rattle.lid_top_script.proofs.EarlyFetches.{early_wanting}
use Rattle.lid_top_clock.proofs.clock.run_again.Goals as goal

pub run-requires-clause-feeds : goal.run-requires-clause-feeds
run-requires-clause-feeds g c κs within =
    let held = g.S.Shelf.held c.args.shelf.now c.in-Ok.feed.name in
    let is = c.wrapped.invariant in
    subst (λ (columns : List (List ℕ)). HasGiven held columns (length c.outputs-2.result.now) c.in-Ok.feed []) (c.inputs.ensures.names ∙ sym (source_named c.wrapped.inside.checked c.wrapped.inside.system is.of is.system))
    (subst (λ (n : ℕ). HasGiven held c.inputs.result.now n c.in-Ok.feed []) (ap length (c.outputs.ensures.names ∙ sym c.outputs-2.ensures.names)) (c.in-Ok.ensures.given held))

pub returns-in-Ok-run-clause-ran : goal.returns-in-Ok-run-clause-ran
returns-in-Ok-run-clause-ran g c = λ rows counted.
    let held = g.S.Shelf.held c.args.shelf.now in
    let a = c.args.asked.now in
    let e = c.design.ensures in
    let is = c.wrapped.invariant in
    let has = table_of c.wrapped.inside.checked (judged_of _ e.formed e.accepted.models) e.accepted.loops in
    let inside = subst (λ (w : Wrapping). IsCounted held a w c.args.given.rows rows) (sym c.wrapped.view_is) counted in
    runs_outside a c.args.given.stalls rows c.wrapped.view_is
    (runs_whole _ _ _ _ a.vec _ _ _ _ is.of is.system is.fits c.args.given.few has inside.0 inside.1 _ _ _ _ _ _ _ c.outputs-2.ensures.names c.in-Ok.ensures.name c.in-Ok-run.ensures.ok)

pub returns-clause-ran : goal.returns-clause-ran
returns-clause-ran g c = λ rows counted.
    let held = g.S.Shelf.held c.args.shelf.now in
    let a = c.args.asked.now in
    let e = c.design.ensures in
    let is = c.wrapped.invariant in
    let has = table_of c.wrapped.inside.checked (judged_of _ e.formed e.accepted.models) e.accepted.loops in
    let inside = subst (λ (w : Wrapping). IsCounted held a w c.args.given.rows rows) (sym c.wrapped.view_is) counted in
    runs_outside a c.args.given.stalls rows c.wrapped.view_is
    (runs_in_part _ _ _ _ a.vec _ _ _ _ is.of is.system is.fits c.args.given.few has inside.0 inside.1 _ _ _ _ _ _ _ c.in-Err.fault c.run_end.ensures c.outputs-2.ensures.names c.in-Ok.ensures.name c.in-Err.ensures.err)

pub returns-in_default-clause-fetched : goal.returns-in_default-clause-fetched
returns-in_default-clause-fetched g c = λ rows counted. early_wanting _

pub returns-in-Ok-run-clause-fetched : goal.returns-in-Ok-run-clause-fetched
returns-in-Ok-run-clause-fetched g c = λ rows counted.
    let held = g.S.Shelf.held c.args.shelf.now in
    let a = c.args.asked.now in
    let e = c.design.ensures in
    let is = c.wrapped.invariant in
    let old = g.S.Shelf.fetches c.args.shelf.now in
    let has = table_of c.wrapped.inside.checked (judged_of _ e.formed e.accepted.models) e.accepted.loops in
    let inside = subst (λ (w : Wrapping). IsCounted held a w c.args.given.rows rows) (sym c.wrapped.view_is) counted in
    let begins = fed_first g.S.Shelf.whole (held c.in-Ok.feed.name) old c.in-Ok.feed (c.inputs.ensures.names ∙ sym (source_named c.wrapped.inside.checked c.wrapped.inside.system is.of is.system))
    (ap length (c.outputs.ensures.names ∙ sym c.outputs-2.ensures.names)) (c.in-Ok.ensures.came g.S.Shelf.whole (held c.in-Ok.feed.name) (Some 0) old) in
    fetched_outside a c.args.given.stalls rows c.wrapped.view_is
    (fetched_whole _ _ _ _ a.vec _ _ _ _ is.of is.system is.fits c.args.given.few has inside.0 inside.1 _ _ _ _ _ c.outputs-2.ensures.names c.in-Ok.ensures.name (c.in-Ok-run.ensures.fetched old begins))

pub returns-clause-fetched : goal.returns-clause-fetched
returns-clause-fetched g c = λ rows counted.
    let held = g.S.Shelf.held c.args.shelf.now in
    let a = c.args.asked.now in
    let e = c.design.ensures in
    let is = c.wrapped.invariant in
    let old = g.S.Shelf.fetches c.args.shelf.now in
    let has = table_of c.wrapped.inside.checked (judged_of _ e.formed e.accepted.models) e.accepted.loops in
    let inside = subst (λ (w : Wrapping). IsCounted held a w c.args.given.rows rows) (sym c.wrapped.view_is) counted in
    let begins = fed_first g.S.Shelf.whole (held c.in-Ok.feed.name) old c.in-Ok.feed (c.inputs.ensures.names ∙ sym (source_named c.wrapped.inside.checked c.wrapped.inside.system is.of is.system))
    (ap length (c.outputs.ensures.names ∙ sym c.outputs-2.ensures.names)) (c.in-Ok.ensures.came g.S.Shelf.whole (held c.in-Ok.feed.name) (Some 0) old) in
    fetched_outside a c.args.given.stalls rows c.wrapped.view_is
    (fetched_in_part _ _ _ _ a.vec _ _ _ _ is.of is.system is.fits c.args.given.few has inside.0 inside.1 _ _ _ _ _ _ _ c.in-Err.ensures.err.rows c.in-Err.fault c.run_end.ensures c.outputs-2.ensures.names c.in-Ok.ensures.name c.in-Err.ensures.err.cause
    (c.in-Err.ensures.fetched old begins))

pub returns-clause-wanting : goal.returns-clause-wanting
returns-clause-wanting g c stopped =
    end_stopped (g.O.Sink.faults c.run.new.out ≡ g.O.Sink.faults c.args.out.now) _ _ c.in-Err.fault c.in-Err.ensures.wanting (subst IsStoppedJob c.run_end.ensures stopped)
