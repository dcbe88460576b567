use Rattle.std.proofs.Common.{ℕ, Bool, List, ◌++◌, ◌∙◌, length, Option, None, sym, subst}
use Rattle.lid_texts_feed.specs.Feeds.{IsRefusedText, IfRefused, UnlessRead}
use Rattle.lid_texts_feed.specs.Fetching.{FailsBy, IsBelowAsked, Knows}
use Rattle.lid_texts_feed.proofs.Calling.{unless_read, unread_still, for_piece, for_texts, came_all, came_more, came_last, came_at}
use Rattle.lid_texts_feed.proofs.Taking.{piece_fine, took, knows_more, knows_all}
use Rattle.lid_texts_feed.proofs.text.TextScan.take_rows.Goals as goal

pub returns-in-Err-clause-refused : goal.returns-in-Err-clause-refused
returns-in-Err-clause-refused g c = λ columns outs known none knows.
    subst (IfRefused (IsRefusedText (g.S.Shelf.held c.args.shelf.now c.args.name.now) columns outs)) (sym c.unfetched.ensures)
    (piece_fine (IsRefusedText (g.S.Shelf.held c.args.shelf.now c.args.name.now) columns outs) c.in-Err.fault)

pub returns-then-more-clause-knows : goal.returns-then-more-clause-knows
returns-then-more-clause-knows g c = λ columns outs known none knows.
    let held = g.S.Shelf.held c.args.shelf.now c.args.name.now in
    knows_more held columns outs c.take_piece.new.self known c.args.rows.now.items c.take_piece.new.rows.items c.in-Ok.more (c.in-Ok.ensures.count ∙ none)
    (took held columns outs c.args.self.now c.take_piece.new.self known c.args.rows.now.items c.take_piece.new.rows.items c.in-Ok.more none knows (λ bytes fed. c.in-Ok.ensures.takes columns outs bytes fed))

pub returns-clause-knows : goal.returns-clause-knows
returns-clause-knows g c = λ columns outs known none knows.
    let held = g.S.Shelf.held c.args.shelf.now c.args.name.now in
    let end = took held columns outs c.args.self.now c.take_piece.new.self known c.args.rows.now.items c.take_piece.new.rows.items c.in-Ok.more none knows (λ bytes fed. c.in-Ok.ensures.takes columns outs bytes fed) in
    knows_all held columns outs c.finish.result c.finish.new.self known end.rows c.args.rows.now.items c.take_piece.new.rows.items c.finish.new.rows.items end.appended
    (c.finish.ensures.finished columns outs end.bytes (known ++ end.rows) held end.fetched (end.ends c.if-more.false) end.same)

pub returns-clause-refused : goal.returns-clause-refused
returns-clause-refused g c = λ columns outs known none knows.
    let held = g.S.Shelf.held c.args.shelf.now c.args.name.now in
    let end = took held columns outs c.args.self.now c.take_piece.new.self known c.args.rows.now.items c.take_piece.new.rows.items c.in-Ok.more none knows (λ bytes fed. c.in-Ok.ensures.takes columns outs bytes fed) in
    c.finish.ensures.refused columns outs end.bytes held end.fetched (end.ends c.if-more.false)

pub returns-in-Err-clause-begun : goal.returns-in-Err-clause-begun
returns-in-Err-clause-begun g c = λ columns outs known asked first none knows below so.
    let whole = g.S.Shelf.whole in
    let name = c.args.name.now in
    let held = g.S.Shelf.held c.args.shelf.now name in
    let now = g.S.Shelf.fetches c.args.shelf.now in
    let new = g.S.Shelf.fetches c.take_piece.new.shelf in
    let own : Knows held columns outs c.args.self.now None known = subst (λ (o : Option ℕ). Knows held columns outs c.args.self.now o known) none knows in
    let less = subst (λ (rows : List (List Bool)). IsBelowAsked asked (length rows)) own.2 below in
    let going = came_at _ whole held name first now c.args.self.now.fetched c.args.self.now.count own.0 none own.1.long so in
    subst (FailsBy whole held columns outs asked name first new) (sym c.unfetched.ensures)
    (for_piece _ whole held name first new c.in-Err.fault (c.in-Err.ensures.begun columns outs own.0 asked first own.1 less going))

pub returns-in-Err-clause-wanting : goal.returns-in-Err-clause-wanting
returns-in-Err-clause-wanting g c = subst (UnlessRead _) (sym c.unfetched.ensures) (unread_still c.in-Err.fault c.in-Err.ensures.wanting)

pub returns-then-more-clause-came : goal.returns-then-more-clause-came
returns-then-more-clause-came g c = λ columns outs known asked first none knows below so.
    let whole = g.S.Shelf.whole in
    let name = c.args.name.now in
    let held = g.S.Shelf.held c.args.shelf.now name in
    let now = g.S.Shelf.fetches c.args.shelf.now in
    let new = g.S.Shelf.fetches c.take_piece.new.shelf in
    let own : Knows held columns outs c.args.self.now None known = subst (λ (o : Option ℕ). Knows held columns outs c.args.self.now o known) none knows in
    let less = subst (λ (rows : List (List Bool)). IsBelowAsked asked (length rows)) own.2 below in
    let going = came_at _ whole held name first now c.args.self.now.fetched c.args.self.now.count own.0 none own.1.long so in
    came_more _ whole held name first new c.take_piece.new.self.fetched c.in-Ok.more c.take_piece.new.self.count c.if-more.true (c.in-Ok.ensures.count ∙ none) (c.in-Ok.ensures.came columns outs own.0 asked first own.1 less going)

pub returns-clause-came : goal.returns-clause-came
returns-clause-came g c = λ columns outs known asked first none knows below so.
    let whole = g.S.Shelf.whole in
    let name = c.args.name.now in
    let held = g.S.Shelf.held c.args.shelf.now name in
    let now = g.S.Shelf.fetches c.args.shelf.now in
    let new = g.S.Shelf.fetches c.take_piece.new.shelf in
    let own : Knows held columns outs c.args.self.now None known = subst (λ (o : Option ℕ). Knows held columns outs c.args.self.now o known) none knows in
    let less = subst (λ (rows : List (List Bool)). IsBelowAsked asked (length rows)) own.2 below in
    let going = came_at _ whole held name first now c.args.self.now.fetched c.args.self.now.count own.0 none own.1.long so in
    came_all _ whole held name first new c.take_piece.new.self.fetched c.finish.new.self.fetched c.finish.result c.finish.new.self.count c.finish.ensures.ended
    (came_last _ whole held name first new c.take_piece.new.self.fetched c.in-Ok.more c.if-more.false (c.in-Ok.ensures.came columns outs own.0 asked first own.1 less going))

pub returns-clause-begun : goal.returns-clause-begun
returns-clause-begun g c = λ columns outs known asked first none knows below so.
    let whole = g.S.Shelf.whole in
    let name = c.args.name.now in
    let held = g.S.Shelf.held c.args.shelf.now name in
    let now = g.S.Shelf.fetches c.args.shelf.now in
    let new = g.S.Shelf.fetches c.take_piece.new.shelf in
    let own : Knows held columns outs c.args.self.now None known = subst (λ (o : Option ℕ). Knows held columns outs c.args.self.now o known) none knows in
    let less = subst (λ (rows : List (List Bool)). IsBelowAsked asked (length rows)) own.2 below in
    let going = came_at _ whole held name first now c.args.self.now.fetched c.args.self.now.count own.0 none own.1.long so in
    for_texts _ whole held name first new c.take_piece.new.self.fetched c.finish.result
    (came_last _ whole held name first new c.take_piece.new.self.fetched c.in-Ok.more c.if-more.false (c.in-Ok.ensures.came columns outs own.0 asked first own.1 less going))

pub returns-clause-wanting : goal.returns-clause-wanting
returns-clause-wanting g c = unless_read c.finish.result c.in-Ok.ensures.still
