use Rattle.lid_texts_feed.proofs.Needing.{as_needed}
use Rattle.lid_texts_feed.proofs.laws.rows_are_fetched_as_needed.Goals as goal

pub returns : goal.returns
returns c = as_needed
