use Rattle.std.proofs.Common.{◌≡◌, ◌<◌, ◌+◌, ◌-◌, ◌^◌, ◌++◌, ℕ, List, length, refl, sym, ◌∙◌, ap, subst, arith}
use Rattle.lid_base.specs.Outside.{Rose}
use Rattle.lid_base_io.specs.Calls.{CameAs}
use Rattle.lid_texts_feed.specs.Feeds.{AreFetchesFor}
use Rattle.lid_texts_feed.proofs.Needing.{as_needed}
use Rattle.lid_base.proofs.Results.{on_ok, if_err}
use Rattle.lid_texts.specs.RowsText.{rows_text}
use Rattle.lid_stations.specs.Placed.{Placing}
use Rattle.lid_clock.specs.Lives.{IsLast, fired_after, sink}
use Rattle.lid_clock.specs.Ran.{lent}
use Rattle.lid_top_clock.specs.RunTexts.{first_outputs, end_text}
use Rattle.lid_top_clock.specs.Pushing.{HasPushed, IsTellCause}
use Rattle.lid_top_clock.specs.Runnings.{source_columns}
use Rattle.lid_top_clock.specs.Refetching.{FedBy, StopsBy}
use Rattle.lid_top_clock.proofs.Askings.{asks_for}
use Rattle.lid_top_clock.proofs.Counts.{unless_any, unless_later}
use Rattle.lid_top_clock.proofs.Feedings.{some_so, untold_so, still_for_any, still_for_later, run_stops, run_told}
use Rattle.lid_top_clock.proofs.Tellings.{rose_later, cause_later, cause_of_telling, header_told, header_breaks, last_told, last_breaks, first_end, told_part, goes_on, is_over, over_told, over_breaks, err_both}
use Rattle.lid_top_clock.proofs.whole.tell_run.Goals as goal

pub returns-in-Err-clause-err : goal.returns-in-Err-clause-err
returns-in-Err-clause-err g c = λ r given of fed.
    record {
      rows = given;
      given = fed.running.rows;
      told = λ l b. header_breaks g.O.Sink.written g.O.Sink.pieces r fed.running.rules.ascend given l b c.args.staffed.now.task.now.columns.now of.named c.args.out.now c.tell_header.new.out c.args.telling.now.writer c.requires.held c.in-Err.ensures.err;
      cause = cause_of_telling r given (Rose (g.S.Shelf.faults c.args.shelf.now c.args.feed.now.name) (g.S.Shelf.faults c.args.shelf.now c.args.feed.now.name)) (Rose (g.O.Sink.faults c.args.out.now) (g.O.Sink.faults c.tell_header.new.out)) (Rose (g.O.Sink.faults c.args.out.now) (g.O.Sink.faults c.tell_header.new.out)) c.in-Err.fault (λ rose. rose) c.in-Err.ensures.cause;
    }

pub loop-run-init : goal.loop-run-init
loop-run-init g c =
    record {
      telling = λ r given of fed. record {
        given = given;
        fed = fed;
        told = λ l b.
            subst (λ (k : ℕ). HasPushed g.O.Sink.written g.O.Sink.pieces c.args.out.now c.tell_header.new.out c.tell_header.new.self.writer (rows_text r.columns (first_outputs l (fired_after l k (sink l)))))
            (sym c.requires.none)
            (header_told g.O.Sink.written g.O.Sink.pieces r fed.running.rules.ascend given l b c.args.staffed.now.task.now.columns.now of.named c.args.out.now c.tell_header.new.out c.args.telling.now.writer c.tell_header.new.self.writer c.requires.held c.in_default.ensures.ok);
        line = c.in_default.ensures.none;
      };
      came = λ r given first of fed so. (so, λ q. refl);
      name = refl;
      kept = refl;
      grows = λ q. omega arith;
      rises = c.in_default.ensures.grows;
      unrisen = c.in_default.ensures.still;
    }

pub go-requires-clause-fed : goal.go-requires-clause-fed
go-requires-clause-fed g c κs within =
    let start = c.requires.fed in
    let t = c.loop-run.invariant.telling start.0 start.1 start.2 start.3 in
    (start.0, t.given, t.fed, goes_on g.O.Sink.written g.O.Sink.pieces start.0 _ _ _ _ _ _ t _ c.below.ensures c.loop-run-test.true)

pub returns-in-Err-go-clause-err : goal.returns-in-Err-go-clause-err
returns-in-Err-go-clause-err g c = λ r given of fed.
    let t = c.loop-run.invariant.telling r given of fed in
    let name = c.loop-run.invariant.name in
    let first = g.S.Shelf.faults c.args.shelf.now in
    let old = g.S.Shelf.faults c.loop-run.shelf in
    let new = g.S.Shelf.faults c.go.new.shelf in
    record {
      rows = t.given;
      given = t.fed.running.rows;
      told = told_part g.O.Sink.written g.O.Sink.pieces r _ _ _ _ _ _ t;
      cause =
          cause_later r t.given (Rose (first c.args.feed.now.name) (new c.args.feed.now.name)) (Rose (old c.loop-run.feed.name) (new c.loop-run.feed.name)) (Rose (g.O.Sink.faults c.args.out.now) (g.O.Sink.faults c.loop-run.out)) ⊥ c.in-Err-go.fault
          (λ rose. rose_later (first c.args.feed.now.name) (old c.args.feed.now.name) (new c.args.feed.now.name) (c.loop-run.invariant.grows c.args.feed.now.name) (subst (λ n. Rose (old n) (new n)) name rose))
          (λ none. absurd none)
          (c.in-Err-go.ensures.err r t.given t.fed (goes_on g.O.Sink.written g.O.Sink.pieces r _ _ _ _ _ _ t _ c.below.ensures c.loop-run-test.true));
    }

pub returns-in-Err-tell_last-clause-err : goal.returns-in-Err-tell_last-clause-err
returns-in-Err-tell_last-clause-err g c = λ r given of fed.
    let t = c.loop-run.invariant.telling r given of fed in
    let made = c.loop-run.run.made in
    let gone = c.in_default-go.ensures.ok r t.given t.fed (goes_on g.O.Sink.written g.O.Sink.pieces r _ _ _ _ _ _ t _ c.below.ensures c.loop-run-test.true) in
    record {
      rows = gone.given;
      given = gone.running.rows;
      told = λ l b.
          last_breaks g.O.Sink.written g.O.Sink.pieces r gone.running.rules.ascend gone.given l b made (lent c.last.result)
          (subst (λ (k : ℕ). IsLast l k (lent c.last.result)) gone.one (c.last.ensures l c.go.new.self.made (length gone.given) (gone.running.lives l b).ran))
          c.args.out.now c.loop-run.out c.tell_last.new.out c.loop-run.telling.writer (t.told l (gone.further l b)) c.args.staffed.now.task.now.columns.now of.named c.in-Err-tell_last.ensures.err;
      cause =
          cause_of_telling r gone.given (Rose (g.S.Shelf.faults c.args.shelf.now c.args.feed.now.name) (g.S.Shelf.faults c.go.new.shelf c.args.feed.now.name)) (Rose (g.O.Sink.faults c.loop-run.out) (g.O.Sink.faults c.tell_last.new.out)) (Rose (g.O.Sink.faults c.args.out.now) (g.O.Sink.faults c.tell_last.new.out)) c.in-Err-tell_last.fault
          (λ rose. rose_later (g.O.Sink.faults c.args.out.now) (g.O.Sink.faults c.loop-run.out) (g.O.Sink.faults c.tell_last.new.out) c.loop-run.invariant.rises rose) c.in-Err-tell_last.ensures.cause;
    }

smaller : (made more : ℕ) → more ≡ made + 1 → more < 2 ^ 64 → 2 ^ 64 - more < 2 ^ 64 - made
smaller made more is few = omega arith

pub loop-run-smaller : goal.loop-run-smaller
loop-run-smaller g c =
    let start = c.requires.fed in
    let t = c.loop-run.invariant.telling start.0 start.1 start.2 start.3 in
    let made = c.loop-run.run.made in
    let goes = goes_on g.O.Sink.written g.O.Sink.pieces start.0 _ _ _ _ _ _ t _ c.below.ensures c.loop-run-test.true in
    let gone = c.in_default-go.ensures.ok start.0 t.given t.fed goes in
    smaller made c.go.new.self.made gone.one gone.few

pub loop-run-preserved : goal.loop-run-preserved
loop-run-preserved g c =
    record {
      telling = λ r given of fed.
          let t = c.loop-run.invariant.telling r given of fed in
          let made = c.loop-run.run.made in
          let gone = c.in_default-go.ensures.ok r t.given t.fed (goes_on g.O.Sink.written g.O.Sink.pieces r _ _ _ _ _ _ t _ c.below.ensures c.loop-run-test.true) in
          record {
            given = gone.given;
            fed = record {
              told = t.fed.told ∙ ap (g.S.Shelf.held c.loop-run.shelf) (sym c.in_default-go.ensures.name) ∙ ap (λ h. h c.go.new.feed.name) (sym c.in_default-go.ensures.kept);
              running = gone.running;
              feeds = gone.feeds;
              asked = gone.asked;
            };
            told = λ l b.
                subst (λ (k : ℕ). HasPushed g.O.Sink.written g.O.Sink.pieces c.args.out.now c.tell_last.new.out c.tell_last.new.self.writer (rows_text r.columns (first_outputs l (fired_after l k (sink l)))))
                (sym gone.one)
                (last_told g.O.Sink.written g.O.Sink.pieces r gone.running.rules.ascend gone.given l b made (lent c.last.result)
                (subst (λ (k : ℕ). IsLast l k (lent c.last.result)) gone.one (c.last.ensures l c.go.new.self.made (length gone.given) (gone.running.lives l b).ran))
                c.args.out.now c.loop-run.out c.tell_last.new.out c.loop-run.telling.writer (t.told l (gone.further l b)) c.args.staffed.now.task.now.columns.now of.named c.tell_last.new.self.writer c.in_default-tell_last.ensures.ok);
            line = c.in_default-tell_last.ensures.none;
          };
      came = λ r given first of fed so.
          let t = c.loop-run.invariant.telling r given of fed in
          let before = c.loop-run.invariant.came r given first of fed so in
          let went = c.in_default-go.ensures.fetched r t.given first t.fed (goes_on g.O.Sink.written g.O.Sink.pieces r _ _ _ _ _ _ t _ c.below.ensures c.loop-run-test.true) before.0 in
          (went.done, λ q. went.still q ∙ before.1 q);
      name = c.in_default-go.ensures.name ∙ c.loop-run.invariant.name;
      kept = c.in_default-go.ensures.kept ∙ c.loop-run.invariant.kept;
      grows = λ q. omega (arith, c.loop-run.invariant.grows q, c.in_default-go.ensures.grows q);
      rises = omega (arith, c.loop-run.invariant.rises, c.in_default-tell_last.ensures.grows);
      unrisen = c.in_default-tell_last.ensures.still ∙ c.loop-run.invariant.unrisen;
    }

pub append_end-requires : goal.append_end-requires
append_end-requires g c =
    let start = c.requires.fed in
    let t = c.loop-run.invariant.telling start.0 start.1 start.2 start.3 in
    (start.0, t.given, t.fed.running, c.len.ensures ∙ ap (λ (v : Placing). length v.system.nodes) c.placed.view_is ∙ ap (λ s. length s.nodes) (sym start.2.of))

pub returns-in_default-append_end-clause-err : goal.returns-in_default-append_end-clause-err
returns-in_default-append_end-clause-err g c = λ r given of fed.
    let t = c.loop-run.invariant.telling r given of fed in
    record {
      rows = t.given;
      given = t.fed.running.rows;
      told = told_part g.O.Sink.written g.O.Sink.pieces r _ _ _ _ _ _ t;
      cause = tt;
    }

pub returns-clause-ok : goal.returns-clause-ok
returns-clause-ok g c = λ r given of fed.
    let t = c.loop-run.invariant.telling r given of fed in
    on_ok c.finish.result
    (λ close. record {
      rows = t.given;
      given = t.fed.running.rows;
      told =
          over_told g.O.Sink.written g.O.Sink.pieces r _ _ _ _ _ _ t _ c.below.ensures c.loop-run-test.false c.finish.new.out c.append_end.new.into.items
          (λ l b. c.in-Ok.ensures r t.given l t.fed.running b (c.len.ensures ∙ ap (λ (v : Placing). length v.system.nodes) c.placed.view_is ∙ ap (λ s. length s.nodes) (sym of.of)) ∙ ap (λ (xs : List ℕ). xs ++ end_text l r.stalls r.trace c.loop-run.run.made) t.line) close;
    })
    c.finish.ensures.ok

pub returns-clause-err : goal.returns-clause-err
returns-clause-err g c = λ r given of fed.
    let t = c.loop-run.invariant.telling r given of fed in
    err_both (IsTellCause (Rose (g.O.Sink.faults c.loop-run.out) (g.O.Sink.faults c.finish.new.out))) _ c.finish.result
    (λ fault break cause. record {
      rows = t.given;
      given = t.fed.running.rows;
      told =
          over_breaks g.O.Sink.written g.O.Sink.pieces r _ _ _ _ _ _ t _ c.below.ensures c.loop-run-test.false c.finish.new.out c.append_end.new.into.items
          (λ l b. c.in-Ok.ensures r t.given l t.fed.running b (c.len.ensures ∙ ap (λ (v : Placing). length v.system.nodes) c.placed.view_is ∙ ap (λ s. length s.nodes) (sym of.of)) ∙ ap (λ (xs : List ℕ). xs ++ end_text l r.stalls r.trace c.loop-run.run.made) t.line) break;
      cause =
          cause_of_telling r t.given (Rose (g.S.Shelf.faults c.args.shelf.now c.args.feed.now.name) (g.S.Shelf.faults c.loop-run.shelf c.args.feed.now.name)) (Rose (g.O.Sink.faults c.loop-run.out) (g.O.Sink.faults c.finish.new.out)) (Rose (g.O.Sink.faults c.args.out.now) (g.O.Sink.faults c.finish.new.out)) fault
          (λ rose. rose_later (g.O.Sink.faults c.args.out.now) (g.O.Sink.faults c.loop-run.out) (g.O.Sink.faults c.finish.new.out) c.loop-run.invariant.rises rose) cause;
    })
    c.finish.ensures.err c.finish.ensures.cause

pub returns-in-Err-clause-fetched : goal.returns-in-Err-clause-fetched
returns-in-Err-clause-fetched g c = λ r given first of fed so.
    let name = c.args.feed.now.name in
    let now = g.S.Shelf.fetches c.args.shelf.now in
    let count = fed.running.count in
    let few = fed.running.rows.few in
    run_stops c.in-Err.fault
    (untold_so g.S.Shelf.whole r name first now _ c.in-Err.fault c.in-Err.ensures.cause (some_so g.S.Shelf.whole r c.args.feed.now name c.args.run.now.given first now refl (omega (arith, count, few)) so))
    (still_for_any c.in-Err.fault (g.S.Shelf.faults c.args.shelf.now) (g.S.Shelf.faults c.args.shelf.now) (λ q. refl))

pub returns-in-Err-go-clause-fetched : goal.returns-in-Err-go-clause-fetched
returns-in-Err-go-clause-fetched g c = λ r given first of fed so.
    let t = c.loop-run.invariant.telling r given of fed in
    let before = c.loop-run.invariant.came r given first of fed so in
    let went = c.in-Err-go.ensures.fetched r t.given first t.fed (goes_on g.O.Sink.written g.O.Sink.pieces r _ _ _ _ _ _ t _ c.below.ensures c.loop-run-test.true) before.0 in
    run_stops c.in-Err-go.fault
    (subst (λ (name : List ℕ). CameAs first (g.S.Shelf.fetches c.go.new.shelf) (StopsBy g.S.Shelf.whole r name c.in-Err-go.fault)) c.loop-run.invariant.name went.begun)
    (still_for_later c.in-Err-go.fault (g.S.Shelf.faults c.args.shelf.now) (g.S.Shelf.faults c.loop-run.shelf) (g.S.Shelf.faults c.go.new.shelf) before.1 went.still_for)

pub returns-in-Err-tell_last-clause-fetched : goal.returns-in-Err-tell_last-clause-fetched
returns-in-Err-tell_last-clause-fetched g c = λ r given first of fed so.
    let t = c.loop-run.invariant.telling r given of fed in
    let before = c.loop-run.invariant.came r given first of fed so in
    let goes = goes_on g.O.Sink.written g.O.Sink.pieces r _ _ _ _ _ _ t _ c.below.ensures c.loop-run-test.true in
    let gone = c.in_default-go.ensures.ok r t.given t.fed goes in
    let went = c.in_default-go.ensures.fetched r t.given first t.fed goes before.0 in
    let name = c.args.feed.now.name in
    let now = g.S.Shelf.fetches c.go.new.shelf in
    let count = gone.running.count in
    let few = gone.running.rows.few in
    run_stops c.in-Err-tell_last.fault
    (untold_so g.S.Shelf.whole r name first now _ c.in-Err-tell_last.fault c.in-Err-tell_last.ensures.cause
    (some_so g.S.Shelf.whole r c.go.new.feed name c.go.new.self.given first now (c.in_default-go.ensures.name ∙ c.loop-run.invariant.name) (omega (arith, count, few)) went.done))
    (still_for_any c.in-Err-tell_last.fault (g.S.Shelf.faults c.args.shelf.now) (g.S.Shelf.faults c.go.new.shelf) (λ q. went.still q ∙ before.1 q))

pub returns-in_default-append_end-clause-fetched : goal.returns-in_default-append_end-clause-fetched
returns-in_default-append_end-clause-fetched g c = λ r given first of fed so.
    let t = c.loop-run.invariant.telling r given of fed in
    let before = c.loop-run.invariant.came r given first of fed so in
    let count = t.fed.running.count in
    let few = t.fed.running.rows.few in
    run_stops _
    (some_so g.S.Shelf.whole r c.loop-run.feed c.args.feed.now.name c.loop-run.run.given first (g.S.Shelf.fetches c.loop-run.shelf) c.loop-run.invariant.name (omega (arith, count, few)) before.0)
    before.1

pub returns-clause-fetched : goal.returns-clause-fetched
returns-clause-fetched g c = λ r given first of fed so.
    let whole = g.S.Shelf.whole in
    let t = c.loop-run.invariant.telling r given of fed in
    let before = c.loop-run.invariant.came r given first of fed so in
    let name = c.args.feed.now.name in
    let now = g.S.Shelf.fetches c.loop-run.shelf in
    let columns = source_columns r.system in
    let outs = length r.columns in
    let count = t.fed.running.count in
    let few = t.fed.running.rows.few in
    let feeds : FedBy whole r (length t.given) first now c.loop-run.feed = subst (λ (n : ℕ). FedBy whole r n first now c.loop-run.feed) count before.0 in
    run_told c.finish.result _ c.finish.ensures.cause
    (record {
      rows = t.given;
      given = t.fed.running.rows;
      asks = λ l b.
          asks_for r t.given l c.loop-run.run.made b
          (first_end g.O.Sink.written g.O.Sink.pieces r t.fed.running.rules.ascend t.given l b c.loop-run.run.made (t.fed.running.lives l b).busy (is_over g.O.Sink.written g.O.Sink.pieces r _ _ _ _ _ _ t _ c.below.ensures c.loop-run-test.false l b))
          (t.fed.asked l b);
      came =
          subst (λ (n : List ℕ). CameAs first now (AreFetchesFor whole r.held columns outs (length t.given) n)) c.loop-run.invariant.name
          (as_needed whole r.held columns outs first now c.loop-run.feed t.given t.fed.feeds feeds);
    })
    (some_so whole r c.loop-run.feed name c.loop-run.run.given first now c.loop-run.invariant.name (omega (arith, count, few)) before.0)
    before.1

pub returns-in-Err-go-clause-wanting : goal.returns-in-Err-go-clause-wanting
returns-in-Err-go-clause-wanting g c = unless_any c.in-Err-go.fault c.loop-run.invariant.unrisen

pub returns-in-Err-tell_last-clause-wanting : goal.returns-in-Err-tell_last-clause-wanting
returns-in-Err-tell_last-clause-wanting g c = unless_later c.in-Err-tell_last.fault (λ same. same ∙ c.loop-run.invariant.unrisen) c.in-Err-tell_last.ensures.wanting

pub returns-clause-still : goal.returns-clause-still
returns-clause-still g c = on_ok c.finish.result (λ same. same ∙ c.loop-run.invariant.unrisen) c.finish.ensures.still

pub returns-clause-wanting : goal.returns-clause-wanting
returns-clause-wanting g c = if_err c.finish.result (λ fault. unless_later fault (λ same. same ∙ c.loop-run.invariant.unrisen)) c.finish.ensures.wanting
