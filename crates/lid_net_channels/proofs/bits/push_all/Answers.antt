use Rattle.std.proofs.Common.{ℕ, List, ◌++◌, length, take, ap, sym, ◌∙◌, append_assoc}
use Rattle.lid_base.specs.Each.{from_each}
use Rattle.lid_system.specs.declared.Channel.{Channel}
use Rattle.lid_system.specs.declared.InBit.{InBit}
use Rattle.lid_system.specs.declared.InBit.TheVariants.{Port}
use Rattle.lid_net_channels.specs.Bits.{bits_from}
use Rattle.lid_net_channels.proofs.Naming.{bits_more}
use Rattle.lid_net_channels.proofs.bits.push_all.Goals as goal

pub loop-chan-preserved : goal.loop-chan-preserved
loop-chan-preserved c =
    let chan = c.loop-chan.chan in
    let channel = c.index-channels-chan.result in
    c.in_ok-push_bits.ensures
    ∙ ap (λ (bs : List InBit). bs ++ from_each (Port chan) 0 c.len.result) c.loop-chan.invariant
    ∙ append_assoc c.args.bits.now.items (bits_from 0 (take chan c.args.channels.now)) (from_each (Port chan) 0 c.len.result)
    ∙ ap (λ (bs : List InBit). c.args.bits.now.items ++ bs) (ap (λ (n : ℕ). bits_from 0 (take chan c.args.channels.now) ++ from_each (Port chan) 0 n) c.len.ensures ∙ ap (λ (ch : Channel). bits_from 0 (take chan c.args.channels.now) ++ from_each (Port chan) 0 (length ch.ports)) (sym c.index-channels-chan.is) ∙ sym (bits_more c.args.channels.now chan channel c.loop-chan-test.true c.index-channels-chan.is))
