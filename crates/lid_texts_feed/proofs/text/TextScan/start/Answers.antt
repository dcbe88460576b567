use Rattle.std.proofs.Common.{[], refl, sym}
use Rattle.lid_texts_feed.proofs.Taking.{nothing_fetched, nothing_ended}
use Rattle.lid_texts_feed.proofs.text.TextScan.start.Goals as goal

pub returns-clause-knows : goal.returns-clause-knows
returns-clause-knows c = λ held.
    ([], nothing_fetched held c.args.columns.now c.args.outs _ c.in_ok-start.ensures.read c.in_ok-start.ensures.columns c.in_ok-start.ensures.outs refl, sym (nothing_ended c.args.columns.now c.args.outs))
