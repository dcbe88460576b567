use Rattle.std.proofs.Common.{◌≡◌, ◌⊎◌, ℕ, ◌+◌, length, sym, ◌∙◌, ap, subst, add-one, arith}
use Rattle.lid_clock.specs.Lives.{NeedsRow, IsBelow}
use Rattle.lid_top_clock.specs.Refetching.{FedBy}
use Rattle.lid_top_clock.specs.Stepping.{HasNotEnded, rows_asked}
use Rattle.lid_top_clock.proofs.Askings.{asked_next}
use Rattle.lid_top_clock.proofs.Feedings.{some_so, fed_on_ok, fed_on_err, fed_not}
use Rattle.lid_top_clock.proofs.steps.Running.go.Goals as goal

pub step-requires-clause-ready : goal.step-requires-clause-ready
step-requires-clause-ready g c κs within =
    let r = c.requires.fed.0 in
    let on = c.in_default.ensures.ok r c.requires.fed.1 c.requires.fed.2 in
    (r, on.given, on.running, on.ready, λ l begins. subst (λ (made : ℕ). IsBelow l made) (sym c.in_default.ensures.made) (c.requires.fed.3 l (on.further l begins)))

pub returns-clause-ok : goal.returns-clause-ok
returns-clause-ok g c = λ r given fed goes.
    let on = c.in_default.ensures.ok r given fed in
    let goes_on : HasNotEnded r c.feed_on.new.self on.given = λ l begins. subst (λ (made : ℕ). IsBelow l made) (sym c.in_default.ensures.made) (goes l (on.further l begins)) in
    let one = c.in-Ok.ensures.one ∙ ap (λ (n : ℕ). n + 1) c.in_default.ensures.made in
    record {
      given = on.given;
      running = c.in-Ok.ensures.ok r on.given on.running on.ready goes_on;
      feeds = on.feeds;
      further = on.further;
      one = one;
      few = c.in-Ok.ensures.few;
      asked = λ l b.
          let again : NeedsRow l c.args.self.now.made (length on.given) → ⊥ = λ needs. on.ready l b (subst (λ (k : ℕ). NeedsRow l k (length on.given)) (sym c.in_default.ensures.made) needs) in
          let once = subst (λ (k : ℕ). (length on.given ≡ length given) ⊎ (NeedsRow l k (length given) × (length on.given ≡ length given + 1))) c.in_default.ensures.made (on.once l b) in
          asked_next l b.of.rules c.args.self.now.made (length given) (length on.given) (fed.asked l (on.further l b)) again once
          ∙ ap (rows_asked l) (sym (add-one c.args.self.now.made) ∙ sym one);
    }

pub returns-in-Err-clause-fetched : goal.returns-in-Err-clause-fetched
returns-in-Err-clause-fetched g c = λ r given first fed goes so. fed_not (c.in-Err.ensures.fetched r given first fed so)

pub returns-in_default-step-clause-fetched : goal.returns-in_default-step-clause-fetched
returns-in_default-step-clause-fetched g c = λ r given first fed goes so.
    let on = c.in_default.ensures.ok r given fed in
    let went = c.in_default.ensures.fetched r given first fed so in
    let count = on.running.count in
    let few = on.running.rows.few in
    fed_on_err _ (some_so g.S.Shelf.whole r c.feed_on.new.feed c.args.feed.now.name c.feed_on.new.self.given first (g.S.Shelf.fetches c.feed_on.new.shelf) c.in_default.ensures.name (omega (arith, count, few)) went.done) went.still

pub returns-clause-fetched : goal.returns-clause-fetched
returns-clause-fetched g c = λ r given first fed goes so.
    let on = c.in_default.ensures.ok r given fed in
    let goes_on : HasNotEnded r c.feed_on.new.self on.given = λ l begins. subst (λ (made : ℕ). IsBelow l made) (sym c.in_default.ensures.made) (goes l (on.further l begins)) in
    let same = on.running.count ∙ sym (c.in-Ok.ensures.ok r on.given on.running on.ready goes_on).count in
    let went = c.in_default.ensures.fetched r given first fed so in
    fed_on_ok (subst (λ (n : ℕ). FedBy g.S.Shelf.whole r n first (g.S.Shelf.fetches c.feed_on.new.shelf) c.feed_on.new.feed) same went.done) went.still
