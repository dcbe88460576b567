use Rattle.std.proofs.Common.{[]}
use Rattle.lid_base_io.proofs.Going.{none_as}
use Rattle.lid_texts_feed.specs.Feeds.{most_bytes}
use Rattle.lid_texts_feed.proofs.Calling.{came_begins}
use Rattle.lid_texts_feed.proofs.counting.count_rows.Goals as goal

pub returns-clause-counted : goal.returns-clause-counted
returns-clause-counted g c =
    c.count_all.ensures.counted c.args.columns.now c.args.outs [] (c.in-Ok.ensures.knows (g.S.Shelf.held c.args.shelf.now c.args.name.now))

pub returns-clause-refused : goal.returns-clause-refused
returns-clause-refused g c =
    c.count_all.ensures.refused c.args.columns.now c.args.outs [] (c.in-Ok.ensures.knows (g.S.Shelf.held c.args.shelf.now c.args.name.now))

pub returns-in_default-clause-begun : goal.returns-in_default-clause-begun
returns-in_default-clause-begun g c = none_as g.S.Shelf.whole (g.S.Shelf.held c.args.shelf.now c.args.name.now) c.args.name.now most_bytes (g.S.Shelf.fetches c.args.shelf.now)

pub returns-clause-came : goal.returns-clause-came
returns-clause-came g c =
    let whole = g.S.Shelf.whole in
    let name = c.args.name.now in
    let held = g.S.Shelf.held c.args.shelf.now name in
    let old = g.S.Shelf.fetches c.args.shelf.now in
    c.count_all.ensures.came c.args.columns.now c.args.outs [] old (c.in-Ok.ensures.knows held) (came_begins _ whole held name old c.in-Ok.text.fetched c.in-Ok.text.count c.in-Ok.ensures.fresh c.in-Ok.ensures.goes tt)

pub returns-clause-begun : goal.returns-clause-begun
returns-clause-begun g c =
    let whole = g.S.Shelf.whole in
    let name = c.args.name.now in
    let held = g.S.Shelf.held c.args.shelf.now name in
    let old = g.S.Shelf.fetches c.args.shelf.now in
    c.count_all.ensures.begun c.args.columns.now c.args.outs [] old (c.in-Ok.ensures.knows held) (came_begins _ whole held name old c.in-Ok.text.fetched c.in-Ok.text.count c.in-Ok.ensures.fresh c.in-Ok.ensures.goes tt)
