use Rattle.std.proofs.Common.{◌+◌, Some, length, sym, subst, arith}
use Rattle.lid_texts_feed.specs.Feeds.{AreAll}
use Rattle.lid_texts_feed.specs.Fetching.{HasGiven, GivesNext, FailsBy}
use Rattle.lid_top_clock.specs.Runnings.{source_columns}
use Rattle.lid_top_clock.proofs.Feedings.{fed_of, fed_as, fed_on_ok, fed_on_err, fails_so, ended_so}
use Rattle.lid_top_clock.proofs.steps.next_row.Goals as goal

pub returns-in-Ok-None-clause-err : goal.returns-in-Ok-None-clause-err
returns-in-Ok-None-clause-err g c = λ r rows told feeds count below. (
  subst (λ h. AreAll h (source_columns r.system) (length r.columns) rows) (sym told)
      (subst (λ o. GivesNext (g.S.Shelf.held c.args.shelf.now c.args.feed.now.name) (source_columns r.system) (length r.columns) c.next.new.self rows o) c.in-Ok-None.field-0-is
      (c.in-Ok-None.ensures.given (source_columns r.system) (length r.columns) rows (subst (λ h. HasGiven h (source_columns r.system) (length r.columns) c.args.feed.now rows) told feeds))),
  count,
  below,
)

pub returns-in-Ok-Some-clause-fetched : goal.returns-in-Ok-Some-clause-fetched
returns-in-Ok-Some-clause-fetched g c = λ r rows first told feeds below so.
    let whole = g.S.Shelf.whole in
    let held = g.S.Shelf.held c.args.shelf.now c.args.feed.now.name in
    let columns = source_columns r.system in
    let outs = length r.columns in
    let n = length rows in
    let old = g.S.Shelf.fetches c.args.shelf.now in
    let now = g.S.Shelf.fetches c.next.new.shelf in
    let gives = subst (λ h. HasGiven h columns outs c.args.feed.now rows) told feeds in
    fed_on_ok (fed_of whole r held (n + 1) first now c.next.new.self told (c.in-Ok-Some.ensures.came columns outs rows (Some (n + 1)) first gives (omega arith) (fed_as whole r held n first old c.args.feed.now told so)))
    c.in-Ok-Some.ensures.still

pub returns-in-Ok-None-clause-fetched : goal.returns-in-Ok-None-clause-fetched
returns-in-Ok-None-clause-fetched g c = λ r rows first told feeds below so.
    let whole = g.S.Shelf.whole in
    let held = g.S.Shelf.held c.args.shelf.now c.args.feed.now.name in
    let columns = source_columns r.system in
    let outs = length r.columns in
    let n = length rows in
    let old = g.S.Shelf.fetches c.args.shelf.now in
    let now = g.S.Shelf.fetches c.next.new.shelf in
    let gives = subst (λ h. HasGiven h columns outs c.args.feed.now rows) told feeds in
    let came = c.in-Ok-None.ensures.came columns outs rows (Some (n + 1)) first gives (omega arith) (fed_as whole r held n first old c.args.feed.now told so) in
    fed_on_err _ (ended_so whole r c.next.new.self c.args.feed.now.name (Some (n + 1)) first now c.in-Ok-None.ensures.name (c.in-Ok-None.ensures.last c.in-Ok-None.field-0-is) (fed_of whole r held (n + 1) first now c.next.new.self told came))
    c.in-Ok-None.ensures.still

pub returns-in-Err-clause-fetched : goal.returns-in-Err-clause-fetched
returns-in-Err-clause-fetched g c = λ r rows first told feeds below so.
    let whole = g.S.Shelf.whole in
    let held = g.S.Shelf.held c.args.shelf.now c.args.feed.now.name in
    let columns = source_columns r.system in
    let outs = length r.columns in
    let n = length rows in
    let old = g.S.Shelf.fetches c.args.shelf.now in
    let now = g.S.Shelf.fetches c.next.new.shelf in
    let gives = subst (λ h. HasGiven h columns outs c.args.feed.now rows) told feeds in
    let begun = c.in-Err.ensures.begun columns outs rows (Some (n + 1)) first gives (omega arith) (fed_as whole r held n first old c.args.feed.now told so) in
    fed_on_err _ (fails_so whole r c.args.feed.now.name (n + 1) first now c.in-Err.fault (omega (arith, below)) (subst (λ h. FailsBy whole h columns outs (Some (n + 1)) c.args.feed.now.name first now c.in-Err.fault) (sym told) begun))
    c.in-Err.ensures.wanting
