use Rattle.std.proofs.Common.{◌<◌, ◌+◌, ℕ, length, Some, refl, sym, ◌∙◌, ap, subst}
use Rattle.lid_shell_laws.specs.Setups.{IsInputRow}
use Rattle.lid_top_clock.specs.Refetching.{FedBy}
use Rattle.lid_top_clock.proofs.Feedings.{fed_not, fed_on_ok}
use Rattle.lid_top_clock.proofs.Living.{wide_row}
use Rattle.lid_top_clock.proofs.Goings.{the_life, below_all, fed_on, fed_already}
use Rattle.lid_top_clock.proofs.steps.Running.feed_on.Goals as goal

pub returns-then-not-needs-clause-ok : goal.returns-then-not-needs-clause-ok
returns-then-not-needs-clause-ok g c = λ r given fed.
    fed_already r c.args.self.now given fed.running c.args.feed.now fed.feeds
    (λ l k h ran needs. let is = (c.needs.ensures l k h ran).1 needs in let not = c.if-not-needs.true in cc)

pub returns-in-Err-clause-err : goal.returns-in-Err-clause-err
returns-in-Err-clause-err g c = λ r given fed.
    c.in-Err.ensures.err r given fed.told fed.feeds fed.running.count
    (subst (λ (n : ℕ). n < r.rows) (sym fed.running.count) (below_all r c.args.self.now given fed.running (λ l k h ran. (c.needs.ensures l k h ran).0 c.if-not-needs.false)))

pub give-requires : goal.give-requires
give-requires g c =
    let r = c.requires.0 in
    let given = c.requires.1 in
    let fed = c.requires.2 in
    let life = the_life r c.args.self.now given fed.running in
    let ran = (fed.running.lives life.0 life.1).ran in
    let gave = c.in-Ok.ensures.ok r given fed.told fed.feeds in (
      life.0,
      c.args.self.now.made,
      length given,
      ran,
      (c.needs.ensures life.0 c.args.self.now.made (length given) ran).0 c.if-not-needs.false,
      subst (λ s. IsInputRow s c.as_slice.result.now) (sym life.1.of.of) (wide_row r.system c.as_slice.result.now (ap length c.as_slice.ensures ∙ gave.wide)),
    )

pub returns-clause-ok : goal.returns-clause-ok
returns-clause-ok g c = λ r given fed.
    fed_on r c.args.self.now given fed.running _ c.next_row.new.feed c.in-Ok.row
    (λ l k h ran. (c.needs.ensures l k h ran).0 c.if-not-needs.false)
    (c.in-Ok.ensures.ok r given fed.told fed.feeds)
    (λ l k h ran is. c.give.ensures l k h ran (is ∙ ap Some (sym c.as_slice.ensures)))
    refl refl refl refl refl refl

pub returns-then-not-needs-clause-fetched : goal.returns-then-not-needs-clause-fetched
returns-then-not-needs-clause-fetched g c = λ r given first fed so. fed_on_ok so (λ q. refl)

pub returns-in-Err-clause-fetched : goal.returns-in-Err-clause-fetched
returns-in-Err-clause-fetched g c = λ r given first fed so.
    fed_not (c.in-Err.ensures.fetched r given first fed.told fed.feeds (below_all r c.args.self.now given fed.running (λ l k h ran. (c.needs.ensures l k h ran).0 c.if-not-needs.false))
    (subst (λ (n : ℕ). FedBy g.S.Shelf.whole r n first (g.S.Shelf.fetches c.args.shelf.now) c.args.feed.now) fed.running.count so))

pub returns-clause-fetched : goal.returns-clause-fetched
returns-clause-fetched g c = λ r given first fed so.
    let went = c.in-Ok.ensures.fetched r given first fed.told fed.feeds (below_all r c.args.self.now given fed.running (λ l k h ran. (c.needs.ensures l k h ran).0 c.if-not-needs.false))
    (subst (λ (n : ℕ). FedBy g.S.Shelf.whole r n first (g.S.Shelf.fetches c.args.shelf.now) c.args.feed.now) fed.running.count so) in
    fed_on_ok (subst (λ (n : ℕ). FedBy g.S.Shelf.whole r (n + 1) first (g.S.Shelf.fetches c.next_row.new.shelf) c.next_row.new.feed) (sym fed.running.count) went.done) went.still
