use Rattle.std.proofs.Common.{◌≡◌, ◌+◌, ◌-◌, ◌++◌, min, ◌∙◌, length, length-append, refl, sym, ap, arith, subst}
use Rattle.lid_base.specs.Outside.{Came, one_fetch}
use Rattle.lid_base.proofs.Results.{given_err}
use Rattle.lid_texts_feed.specs.Feeds.{most_bytes}
use Rattle.lid_texts_feed.proofs.Calling.{needed_more, going_in_part, came_full, came_stopped, came_on}
use Rattle.lid_texts_feed.proofs.Taking.{no_piece, took_piece}
use Rattle.lid_texts_feed.proofs.text.TextScan.take_piece.Goals as goal

pub returns-then-self-ge-MOST_FETCHED-clause-takes : goal.returns-then-self-ge-MOST_FETCHED-clause-takes
returns-then-self-ge-MOST_FETCHED-clause-takes g c = λ columns outs bytes fed.
    no_piece (g.S.Shelf.held c.args.shelf.now c.args.name.now) columns outs c.args.self.now bytes c.args.rows.now.items fed c.if-self-ge-MOST_FETCHED.true

pub returns-clause-takes : goal.returns-clause-takes
returns-clause-takes g c = λ columns outs bytes fed.
    let room : length c.deref_mut.result.now ≡ c.min-room.result = c.deref_mut.ensures.len ∙ c.in_ok-buffer.ensures.len in
    let least = c.min-room.ensures in
    let fewer = c.if-self-ge-MOST_FETCHED.false in
    took_piece (g.S.Shelf.held c.args.shelf.now c.args.name.now) columns outs g.S.Shelf.whole c.args.self.now _ bytes _ c.in_ok-got.got c.args.rows.now.items c.scan_piece.new.rows.items fed
    (c.in_ok-got.ensures.scanned bytes fed.read (sym fed.long)) refl c.in_ok-got.ensures.columns c.in_ok-got.ensures.outs
    (omega arith) c.in_ok-got.ensures.within (omega arith)

pub returns-then-self-ge-MOST_FETCHED-clause-came : goal.returns-then-self-ge-MOST_FETCHED-clause-came
returns-then-self-ge-MOST_FETCHED-clause-came g c = λ columns outs bytes asked first fed below so.
    let long = fed.long in
    came_full _ g.S.Shelf.whole (g.S.Shelf.held c.args.shelf.now c.args.name.now) c.args.name.now first (g.S.Shelf.fetches c.args.shelf.now) (length bytes) c.args.self.now.fetched (omega (arith, long, c.if-self-ge-MOST_FETCHED.true)) so

pub returns-in_err-buffer-clause-begun : goal.returns-in_err-buffer-clause-begun
returns-in_err-buffer-clause-begun g c = λ columns outs bytes asked first fed below so.
    given_err c.from_residual.result
    (going_in_part _ g.S.Shelf.whole (g.S.Shelf.held c.args.shelf.now c.args.name.now) c.args.name.now first (g.S.Shelf.fetches c.args.shelf.now) (length bytes) so)

pub returns-in_err-got-clause-begun : goal.returns-in_err-got-clause-begun
returns-in_err-got-clause-begun g c = λ columns outs bytes asked first fed below so.
    let held = g.S.Shelf.held c.args.shelf.now c.args.name.now in
    let room : length c.deref_mut.result.now ≡ c.min-room.result = c.deref_mut.ensures.len ∙ c.in_ok-buffer.ensures.len in
    let least = c.min-room.ensures in
    let fewer = c.if-self-ge-MOST_FETCHED.false in
    let long = fed.long in
    let is : length c.deref_mut.result.now ≡ min 65536 (most_bytes + 1 - length bytes) = omega (arith, room, least, fewer, long) in
    given_err c.from_residual-in_err-got.result
    (came_stopped _ g.S.Shelf.whole held c.args.name.now first (g.S.Shelf.fetches c.args.shelf.now) (g.S.Shelf.fetches c.scan_piece.new.shelf) bytes (length c.deref_mut.result.now) (omega (arith, fewer, long)) is so
    (subst (λ k. Came (g.S.Shelf.fetches c.args.shelf.now) (g.S.Shelf.fetches c.scan_piece.new.shelf) (one_fetch c.args.name.now k (length c.deref_mut.result.now))) long c.scan_piece.ensures.came)
    (needed_more held columns outs asked c.args.name.now bytes fed.begins below))

pub returns-clause-came : goal.returns-clause-came
returns-clause-came g c = λ columns outs bytes asked first fed below so.
    let held = g.S.Shelf.held c.args.shelf.now c.args.name.now in
    let room : length c.deref_mut.result.now ≡ c.min-room.result = c.deref_mut.ensures.len ∙ c.in_ok-buffer.ensures.len in
    let least = c.min-room.ensures in
    let fewer = c.if-self-ge-MOST_FETCHED.false in
    let long = fed.long in
    let is : length c.deref_mut.result.now ≡ min 65536 (most_bytes + 1 - length bytes) = omega (arith, room, least, fewer, long) in
    let scans = c.in_ok-got.ensures.scanned bytes fed.read (sym fed.long) in
    let size : length (bytes ++ scans.piece) ≡ length bytes + c.in_ok-got.got = length-append bytes scans.piece ∙ ap (λ n. length bytes + n) (sym scans.long) in
    came_on _ g.S.Shelf.whole held c.args.name.now first (g.S.Shelf.fetches c.args.shelf.now) (g.S.Shelf.fetches c.scan_piece.new.shelf) bytes (length c.deref_mut.result.now) (omega (arith, fewer, long)) is so
    (subst (λ k. Came (g.S.Shelf.fetches c.args.shelf.now) (g.S.Shelf.fetches c.scan_piece.new.shelf) (one_fetch c.args.name.now k (length c.deref_mut.result.now))) long c.scan_piece.ensures.came)
    (needed_more held columns outs asked c.args.name.now bytes fed.begins below)
    (bytes ++ scans.piece) _ c.in_ok-got.got c.in_ok-got.ensures.within size scans.next (ap (λ n. n + c.in_ok-got.got) long)
