use Rattle.std.proofs.Common.{◌≤◌, List, ◌++◌, length, reverse, ap, sym, ◌∙◌, subst}
use Rattle.std.specs.List.{AllByRecursion}
use Rattle.std.proofs.lemmas.List.{reverse-reverse}
use Rattle.lid_system.specs.declared.Channel.{Channel}
use Rattle.lid_system.specs.declared.InBit.{InBit}
use Rattle.lid_net_channels.specs.declared.reads.Read.{Read}
use Rattle.lid_net_channels.specs.Bits.{CarryAll, bits_from}
use Rattle.lid_net_channels.proofs.Cutting.{narrow_all}
use Rattle.lid_net_channels.proofs.Naming.{carry_all}
use Rattle.lid_net_channels.proofs.bits.name_bits.Goals as goal

pub push_all-requires-clause-narrow : goal.push_all-requires-clause-narrow
push_all-requires-clause-narrow c = narrow_all c.args.channels.now c.requires.channels.cut

pub returns : goal.returns
returns c =
    let channels = c.args.channels.now in
    let is = c.in_ok-push_all.ensures ∙ ap (λ (bs : List InBit). bs ++ bits_from 0 channels) c.in_ok-bits.ensures.items in
    subst (λ (bs : List InBit). CarryAll channels c.args.reads.now bs) (sym is)
    (subst (λ (rs : List Read). CarryAll channels rs (bits_from 0 channels)) c.requires.channels.carry (carry_all channels))
