use Rattle.std.proofs.Common.{◌++◌}
use Rattle.lid_texts_feed.proofs.Packs.{given_wide}
use Rattle.lid_texts_feed.proofs.packing.Packing.take.Goals as goal

pub move_rows-requires : goal.move_rows-requires
move_rows-requires c =
    let has = c.requires.3 in
    given_wide c.requires.0 c.requires.1 c.requires.2 (c.requires.2 ++ c.args.piece.now) c.args.self.now has c.feed.new.into.items (c.in_ok-feed.ensures.rows c.requires.2 has.read)
