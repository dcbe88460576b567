use Rattle.lid_texts_feed.proofs.Calling.{none_needed, came_begins}
use Rattle.lid_texts_feed.proofs.feed.RowFeed.start.Goals as goal

pub returns-clause-came : goal.returns-clause-came
returns-clause-came c = λ whole held asked first.
    came_begins _ whole held c.new.result first _ _ c.in_ok-start.ensures.fresh c.in_ok-start.ensures.goes (none_needed held c.args.columns.now c.args.outs asked)
