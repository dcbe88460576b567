use Rattle.std.proofs.Common.{sym, subst}
use Rattle.lid_texts_feed.specs.Feeds.{IsRefusedText, IfRefused}
use Rattle.lid_texts_feed.proofs.Taking.{refuses}
use Rattle.lid_texts_feed.proofs.text.TextScan.finish.Goals as goal

pub returns-in-Err-clause-refused : goal.returns-in-Err-clause-refused
returns-in-Err-clause-refused c = λ columns outs bytes held fed whole.
    subst (IfRefused (IsRefusedText held columns outs)) (sym c.refused.ensures)
    (refuses held columns outs c.args.self.now bytes c.in-Err.fault fed whole (c.in-Err.ensures.err bytes fed.read))
