use Rattle.std.proofs.Common.{◌≡◌, ◌<◌, ◌+◌, min, ℕ, List, [], ◌∷◌, length, Bool, Option, None, Some, slice_get, refl, sym, ◌∙◌, ap, subst, arith}
use Rattle.lid_base.proofs.Results.{if_ok}
use Rattle.lid_stations.specs.Placed.{Placing, IsPlaced}
use Rattle.lid_stall_text.specs.declared.stalls.Stall.{Stall}
use Rattle.lid_stall_text.specs.Holds.{Ascend, listed}
use Rattle.lid_top_clock.specs.Runnings.{ClockRun}
use Rattle.lid_top_clock.specs.Refetching.{FedBy}
use Rattle.lid_top_clock.proofs.Feedings.{fed_not, fed_wanting}
use Rattle.lid_top_clock.proofs.Living.{wide_row, next_row_is, more_given, none_given}
use Rattle.lid_top_clock.proofs.Goings.{begun, sound_of}
use Rattle.lid_top_clock.proofs.steps.Running.start.Goals as goal

none_first : (rows : List (List Bool)) → length rows ≡ 0 → slice_get rows 0 ≡ None
none_first [] none = refl
none_first (row ∷ rows) none = absurd (omega arith)

pub begin-requires-2-clause-first : goal.begin-requires-2-clause-first
begin-requires-2-clause-first g c =
    let some : 0 < c.args.task.now.rows = (let not = c.if-task-eq0.false in omega (arith, not)) in
    let r : ClockRun = record { system = c.args.task.now.placed.now.system; placement = c.args.task.now.placed.now.placement; columns = c.requires.feeds.0; rows = c.args.task.now.rows; trace = c.args.task.now.trace; stalls = c.args.stalls; held = g.S.Shelf.held c.args.shelf.now c.args.feed.now.name } in
    let gave = c.in-Ok.ensures.ok r [] refl c.requires.feeds.1 in
    (some, wide_row c.args.task.now.placed.now.system c.as_slice.result.now (ap length c.as_slice.ensures ∙ gave.wide))

-- no row is fetched where there is none
pub returns-then-task-eq0-clause-ok : goal.returns-then-task-eq0-clause-ok
returns-then-task-eq0-clause-ok g c = λ r system stations many most same told feeds.
    let none : c.args.task.now.rows ≡ 0 = c.if-task-eq0.true in
    let placed : IsPlaced c.args.task.now.placed.now.system c.args.task.now.placed.now.placement = subst (λ (v : Placing). IsPlaced v.system v.placement) c.placed.view_is c.placed.invariant in
    let sound = sound_of r c.args.task.now.placed.now.system c.args.task.now.placed.now.placement c.args.task.now.rows system stations many placed.formed placed.fits c.requires.few
    (subst (λ (xs : Option (List Stall)). Ascend (listed xs)) (sym same) c.requires.ascend)
    in
    if_ok c.begin.result
    (λ run h. record {
      given = [];
      running = begun r c.args.task.now.placed.now.system c.args.task.now.placed.now.placement c.args.task.now.rows c.args.task.now.trace c.args.stalls system stations many most same sound [] (none_given r) run None h (omega (arith, none))
          (λ l b. none_first l.setup.input (b.many ∙ many ∙ none));
      feeds = feeds;
      one = omega (arith, none, many);
    })
    c.begin.ensures.begun

pub returns-clause-ok : goal.returns-clause-ok
returns-clause-ok g c = λ r system stations many most same told feeds.
    let row = c.in-Ok.row in
    let gave = c.in-Ok.ensures.ok r [] told feeds in
    let some : 0 < c.args.task.now.rows = (let not = c.if-task-eq0.false in omega (arith, not)) in
    let long : 1 ≡ min 1 c.args.task.now.rows = omega (arith, some) in
    let placed : IsPlaced c.args.task.now.placed.now.system c.args.task.now.placed.now.placement = subst (λ (v : Placing). IsPlaced v.system v.placement) c.placed.view_is c.placed.invariant in
    let sound = sound_of r c.args.task.now.placed.now.system c.args.task.now.placed.now.placement c.args.task.now.rows system stations many placed.formed placed.fits c.requires.few
    (subst (λ (xs : Option (List Stall)). Ascend (listed xs)) (sym same) c.requires.ascend)
    in
    let are = more_given r [] row (none_given r) (subst (λ (n : ℕ). 0 < n) (sym many) some) gave.wide gave.first in
    if_ok c.begin-2.result
    (λ run h. record {
      given = row ∷ [];
      running = begun r c.args.task.now.placed.now.system c.args.task.now.placed.now.placement c.args.task.now.rows c.args.task.now.trace c.args.stalls system stations many most same sound (row ∷ []) are run (Some c.as_slice.result.now) h long
          (λ l b. next_row_is r [] row l b ∙ ap Some (sym c.as_slice.ensures));
      feeds = gave.gives;
      one = omega (arith, long, many);
    })
    c.begin-2.ensures.begun

pub returns-then-task-eq0-clause-fetched : goal.returns-then-task-eq0-clause-fetched
returns-then-task-eq0-clause-fetched g c = λ r first many told feeds so.
    let none : 0 ≡ min 1 r.rows = (let zero = c.if-task-eq0.true in omega (arith, zero, many)) in
    fed_wanting c.begin.result c.begin.ensures.cause refl (omega arith)
    (subst (λ (n : ℕ). FedBy g.S.Shelf.whole r n first (g.S.Shelf.fetches c.args.shelf.now) c.args.feed.now) none so) (λ q. refl)

pub returns-in-Err-clause-fetched : goal.returns-in-Err-clause-fetched
returns-in-Err-clause-fetched g c = λ r first many told feeds so.
    fed_not (c.in-Err.ensures.fetched r [] first told feeds (let not = c.if-task-eq0.false in omega (arith, not, many)) so)

pub returns-clause-fetched : goal.returns-clause-fetched
returns-clause-fetched g c = λ r first many told feeds so.
    let some : 0 < r.rows = (let not = c.if-task-eq0.false in omega (arith, not, many)) in
    let one : 0 + 1 ≡ min 1 r.rows = omega (arith, some) in
    let fed = c.in-Ok.ensures.fetched r [] first told feeds some so in
    fed_wanting c.begin-2.result c.begin-2.ensures.cause c.in-Ok.ensures.name (omega arith)
    (subst (λ (n : ℕ). FedBy g.S.Shelf.whole r n first (g.S.Shelf.fetches c.next_row.new.shelf) c.next_row.new.feed) one fed.done) fed.still
