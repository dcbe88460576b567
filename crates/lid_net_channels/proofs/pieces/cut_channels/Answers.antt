use Rattle.std.proofs.Common.{ap, sym, ◌∙◌, reverse, length, inl, inr, arith}
use Rattle.std.proofs.lemmas.List.{length-reverse}
use Rattle.lid_net_channels.specs.declared.fault.NetFault.TheVariants.{TooManyChannels}
use Rattle.lid_net_channels.proofs.Cutting.{channels_are, channels_there}
use Rattle.lid_net_channels.proofs.pieces.cut_channels.Goals as goal

pub returns-then-count-gt-MOST_CHANNELS-clause-err : goal.returns-then-count-gt-MOST_CHANNELS-clause-err
returns-then-count-gt-MOST_CHANNELS-clause-err c =
    let t = channels_there c.args.reads.now in
    let count = c.count_channels-count.ensures in
    inr (_, t.0, (let long = t.1 in let more = c.if-count-gt-MOST_CHANNELS.true in omega arith), ap TooManyChannels (count ∙ sym t.1))

pub returns-in-Ok-clause-ok : goal.returns-in-Ok-clause-ok
returns-in-Ok-clause-ok c = (channels_are c.args.reads.now c.in-Ok.channels c.in-Ok.ensures, (let long = sym (length-reverse c.in-Ok.channels) ∙ ap length c.in-Ok.ensures in let count = c.count_channels-count.ensures in let few = c.if-count-gt-MOST_CHANNELS.false in omega arith))
