use Rattle.std.proofs.Common.{ℕ, min, List, [], refl, sym, ◌∙◌, ap, subst, arith}
use Rattle.lid_base.specs.Outside.{Rose}
use Rattle.lid_base.proofs.Results.{if_err}
use Rattle.lid_top_clock.specs.Runnings.{run_by}
use Rattle.lid_top_clock.specs.Refetching.{FedBy, RunFetches}
use Rattle.lid_top_clock.proofs.Askings.{started}
use Rattle.lid_top_clock.proofs.Counts.{unless_any}
use Rattle.lid_top_clock.proofs.Feedings.{some_so, run_stops, run_later}
use Rattle.lid_top_clock.proofs.Living.{none_given}
use Rattle.lid_top_clock.proofs.Tellings.{rose_later, cause_later, stopped_later, part_of_none}
use Rattle.lid_top_clock.proofs.whole.run.Goals as goal

pub returns-in-Err-clause-err : goal.returns-in-Err-clause-err
returns-in-Err-clause-err g c =
    let run = run_by c.args.task.now c.args.stalls (g.S.Shelf.held c.args.shelf.now c.args.feed.now.name) in
    let reads = Rose (g.S.Shelf.faults c.args.shelf.now c.args.feed.now.name) (g.S.Shelf.faults c.start.new.shelf c.args.feed.now.name) in
    record {
      rows = [];
      given = none_given run;
      told = λ l b. part_of_none g.O.Sink.written g.O.Sink.pieces run c.requires.ascend [] l b c.args.out.now;
      cause =
          cause_later run [] reads reads (Rose (g.O.Sink.faults c.args.out.now) (g.O.Sink.faults c.args.out.now)) ⊥ c.in-Err.fault (λ rose. rose) (λ none. absurd none)
          (c.in-Err.ensures.err run refl refl refl c.requires.feeds);
    }

pub returns-in_default-clause-err : goal.returns-in_default-clause-err
returns-in_default-clause-err g c =
    let run = run_by c.args.task.now c.args.stalls (g.S.Shelf.held c.args.shelf.now c.args.feed.now.name) in
    record {
      rows = [];
      given = none_given run;
      told = λ l b. part_of_none g.O.Sink.written g.O.Sink.pieces run c.requires.ascend [] l b c.args.out.now;
      cause = tt;
    }

-- the feed's file is the same one, and holds the same, once the run has begun
pub tell_run-requires-clause-fed : goal.tell_run-requires-clause-fed
tell_run-requires-clause-fed g c κs within =
    let run = run_by c.args.task.now c.args.stalls (g.S.Shelf.held c.args.shelf.now c.args.feed.now.name) in
    let same = ap (g.S.Shelf.held c.args.shelf.now) (sym c.in-Ok.ensures.name) ∙ ap (λ h. h c.start.new.feed.name) (sym c.in-Ok.ensures.kept) in
    let has = c.in-Ok.ensures.ok run refl refl refl refl refl refl c.requires.feeds in
    (run, has.given, record { of = refl; named = refl }, started run _ _ _ same c.in-Ok.ensures.made has)

pub returns-clause-ok : goal.returns-clause-ok
returns-clause-ok g c =
    let run = run_by c.args.task.now c.args.stalls (g.S.Shelf.held c.args.shelf.now c.args.feed.now.name) in
    let same = ap (g.S.Shelf.held c.args.shelf.now) (sym c.in-Ok.ensures.name) ∙ ap (λ h. h c.start.new.feed.name) (sym c.in-Ok.ensures.kept) in
    let has = c.in-Ok.ensures.ok run refl refl refl refl refl refl c.requires.feeds in
    c.tell_run.ensures.ok run has.given (record { of = refl; named = refl }) (started run _ _ _ same c.in-Ok.ensures.made has)

pub returns-clause-err : goal.returns-clause-err
returns-clause-err g c =
    let run = run_by c.args.task.now c.args.stalls (g.S.Shelf.held c.args.shelf.now c.args.feed.now.name) in
    let same = ap (g.S.Shelf.held c.args.shelf.now) (sym c.in-Ok.ensures.name) ∙ ap (λ h. h c.start.new.feed.name) (sym c.in-Ok.ensures.kept) in
    let has = c.in-Ok.ensures.ok run refl refl refl refl refl refl c.requires.feeds in
    let first = g.S.Shelf.faults c.args.shelf.now in
    let old = g.S.Shelf.faults c.start.new.shelf in
    let new = g.S.Shelf.faults c.tell_run.new.shelf in
    let name = c.args.feed.now.name in
    if_err c.tell_run.result
    (λ fault stopped.
    stopped_later g.O.Sink.written g.O.Sink.pieces run c.args.out.now c.tell_run.new.out (Rose (first name) (new name)) (Rose (old c.start.new.feed.name) (new c.start.new.feed.name)) (Rose (g.O.Sink.faults c.args.out.now) (g.O.Sink.faults c.tell_run.new.out)) fault
    (λ rose. rose_later (first name) (old name) (new name) (c.in-Ok.ensures.grows name) (subst (λ n. Rose (old n) (new n)) c.in-Ok.ensures.name rose))
    stopped)
    (c.tell_run.ensures.err run has.given (record { of = refl; named = refl }) (started run _ _ _ same c.in-Ok.ensures.made has))

pub returns-in-Err-clause-fetched : goal.returns-in-Err-clause-fetched
returns-in-Err-clause-fetched g c = λ first so.
    let run = run_by c.args.task.now c.args.stalls (g.S.Shelf.held c.args.shelf.now c.args.feed.now.name) in
    let went = c.in-Err.ensures.fetched run first refl refl c.requires.feeds so in
    run_stops c.in-Err.fault went.begun went.still_for

pub returns-in_default-clause-fetched : goal.returns-in_default-clause-fetched
returns-in_default-clause-fetched g c = λ first so.
    let run = run_by c.args.task.now c.args.stalls (g.S.Shelf.held c.args.shelf.now c.args.feed.now.name) in
    let went = c.in-Ok.ensures.fetched run first refl refl c.requires.feeds so in
    run_stops _ (some_so g.S.Shelf.whole run c.start.new.feed c.args.feed.now.name (min 1 c.args.task.now.rows) first (g.S.Shelf.fetches c.start.new.shelf) c.in-Ok.ensures.name (omega arith) went.done) went.still

pub returns-clause-fetched : goal.returns-clause-fetched
returns-clause-fetched g c = λ first so.
    let whole = g.S.Shelf.whole in
    let run = run_by c.args.task.now c.args.stalls (g.S.Shelf.held c.args.shelf.now c.args.feed.now.name) in
    let same = ap (g.S.Shelf.held c.args.shelf.now) (sym c.in-Ok.ensures.name) ∙ ap (λ h. h c.start.new.feed.name) (sym c.in-Ok.ensures.kept) in
    let has = c.in-Ok.ensures.ok run refl refl refl refl refl refl c.requires.feeds in
    let went = c.in-Ok.ensures.fetched run first refl refl c.requires.feeds so in
    let feeds = subst (λ (n : ℕ). FedBy whole run n first (g.S.Shelf.fetches c.start.new.shelf) c.start.new.feed) (sym (has.running.count ∙ has.one)) went.done in
    run_later (g.S.Shelf.faults c.args.shelf.now) c.tell_run.result went.still
    (subst (λ (name : List ℕ). RunFetches whole run name first (g.S.Shelf.fetches c.tell_run.new.shelf) (g.S.Shelf.faults c.start.new.shelf) (g.S.Shelf.faults c.tell_run.new.shelf) c.tell_run.result) c.in-Ok.ensures.name
    (c.tell_run.ensures.fetched run has.given first (record { of = refl; named = refl }) (started run _ _ _ same c.in-Ok.ensures.made has) feeds))

pub returns-in-Err-clause-wanting : goal.returns-in-Err-clause-wanting
returns-in-Err-clause-wanting g c = unless_any c.in-Err.fault refl
