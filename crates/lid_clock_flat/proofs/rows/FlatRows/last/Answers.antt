use Rattle.lid_clock_flat.proofs.rows.FlatRows.last.Goals as goal

pub returns : goal.returns
returns c l k feeds = c.last.ensures l k c.args.self.now.given feeds.ran
