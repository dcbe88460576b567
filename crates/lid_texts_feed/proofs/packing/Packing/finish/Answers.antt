use Rattle.lid_texts_feed.proofs.Packs.{last_wide}
use Rattle.lid_texts_feed.proofs.packing.Packing.finish.Goals as goal

pub move_rows-requires : goal.move_rows-requires
move_rows-requires c =
    let has = c.requires.3 in
    last_wide c.requires.0 c.requires.1 c.requires.2 c.args.self has c.finish.new.into.items c.in_ok-finish.field-0 (c.in_ok-finish.ensures.ok c.requires.2 has.read)
