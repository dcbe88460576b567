use Rattle.lid_texts_feed.proofs.Rereading.{rereads_the_same}
use Rattle.lid_texts_feed.proofs.laws.told_rows_are_read_again.Goals as goal

pub returns : goal.returns
returns c = rereads_the_same
