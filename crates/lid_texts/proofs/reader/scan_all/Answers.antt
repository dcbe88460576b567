use Rattle.std.proofs.Common.{[]}
use Rattle.lid_texts.proofs.Finishing.{whole_read}
use Rattle.lid_texts.proofs.reader.scan_all.Goals as goal

pub returns-in-Ok-finish-clause-ok : goal.returns-in-Ok-finish-clause-ok
returns-in-Ok-finish-clause-ok c =
    let s = c.args.scan.now in
    let fed = c.in-Ok.ensures.rows [] c.requires.read in
    let end = c.in-Ok-finish.ensures.ok c.args.bytes.now (c.in-Ok.ensures.read [] c.requires.read) in
    whole_read s.columns c.feed.new.self.columns s.outs c.feed.new.self.outs c.args.bytes.now c.args.into.now.items c.feed.new.into.items c.finish.new.into.items _ c.in-Ok.ensures.columns c.in-Ok.ensures.outs c.requires.none fed end
