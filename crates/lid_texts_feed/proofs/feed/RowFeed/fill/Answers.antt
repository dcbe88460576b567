use Rattle.std.proofs.Common.{ℕ, List, ◌++◌, reverse, sym, ap, subst}
use Rattle.lid_texts_feed.specs.Feeds.{IsRefusedText, IfRefused}
use Rattle.lid_texts_feed.specs.Fetching.{ScansBy, FailsBy, Knows}
use Rattle.lid_texts_feed.proofs.Calling.{elsewhere}
use Rattle.lid_texts_feed.proofs.Giving.{below_known}
use Rattle.lid_texts_feed.proofs.feed.RowFeed.fill.Goals as goal

pub returns-in-Err-clause-refused : goal.returns-in-Err-clause-refused
returns-in-Err-clause-refused g c = λ columns outs given none has.
    let known = given ++ reverse c.args.self.now.rows.items in
    let text = c.args.self.now.text in
    subst (λ (name : List ℕ). IfRefused (IsRefusedText (g.S.Shelf.held c.args.shelf.now name) columns outs) c.in-Err.fault) c.as_str-name.ensures
    (c.in-Err.ensures.refused columns outs known none
    (subst (λ (name : List ℕ). Knows (g.S.Shelf.held c.args.shelf.now name) columns outs text text.count known) (sym c.as_str-name.ensures) has.knows))

pub returns-in-Err-clause-begun : goal.returns-in-Err-clause-begun
returns-in-Err-clause-begun g c = λ columns outs given asked first none empty has below so.
    let whole = g.S.Shelf.whole in
    let known = given ++ reverse c.args.self.now.rows.items in
    let text = c.args.self.now.text in
    let held = g.S.Shelf.held c.args.shelf.now in
    let named = c.as_str-name.ensures in
    elsewhere (λ h n. FailsBy whole h columns outs asked n first (g.S.Shelf.fetches c.take_rows.new.shelf) c.in-Err.fault) (ap held named) named
    (c.in-Err.ensures.begun columns outs known asked first none
    (subst (λ (name : List ℕ). Knows (held name) columns outs text text.count known) (sym named) has.knows)
    (below_known asked given c.args.self.now.rows.items empty below)
    (elsewhere (λ h n. ScansBy whole h columns outs asked n first (g.S.Shelf.fetches c.args.shelf.now) text) (ap held (sym named)) (sym named) so))

pub returns-clause-came : goal.returns-clause-came
returns-clause-came g c = λ columns outs given asked first none empty has below so.
    let whole = g.S.Shelf.whole in
    let known = given ++ reverse c.args.self.now.rows.items in
    let text = c.args.self.now.text in
    let new = c.take_rows.new.self in
    let held = g.S.Shelf.held c.args.shelf.now in
    let named = c.as_str-name.ensures in
    elsewhere (λ h n. ScansBy whole h columns outs asked n first (g.S.Shelf.fetches c.take_rows.new.shelf) new) (ap held named) named
    (c.in_default.ensures.came columns outs known asked first none
    (subst (λ (name : List ℕ). Knows (held name) columns outs text text.count known) (sym named) has.knows)
    (below_known asked given c.args.self.now.rows.items empty below)
    (elsewhere (λ h n. ScansBy whole h columns outs asked n first (g.S.Shelf.fetches c.args.shelf.now) text) (ap held (sym named)) (sym named) so))
