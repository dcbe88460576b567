use Rattle.std.proofs.Common.{ℕ, List, ◌∷◌, [], ◌++◌, ap, sym, ◌∙◌, append_assoc, zero-add}
use Rattle.lid_base.specs.Each.{from_each}
use Rattle.lid_system.specs.declared.InBit.{InBit}
use Rattle.lid_system.specs.declared.InBit.TheVariants.{Port}
use Rattle.lid_base.proofs.Each.{each_more}
use Rattle.lid_net_channels.proofs.bits.push_bits.Goals as goal

pub loop-bit-preserved : goal.loop-bit-preserved
loop-bit-preserved c =
    let port = Port c.args.chan in
    c.in_ok-push.ensures.items
    ∙ ap (λ (bs : List InBit). bs ++ port c.loop-bit.bit ∷ []) c.loop-bit.invariant
    ∙ append_assoc c.args.bits.now.items (from_each port 0 c.loop-bit.bit) (port c.loop-bit.bit ∷ [])
    ∙ ap (λ (bs : List InBit). c.args.bits.now.items ++ bs) (ap (λ (n : ℕ). from_each port 0 c.loop-bit.bit ++ port n ∷ []) (sym (zero-add c.loop-bit.bit)) ∙ sym (each_more port 0 c.loop-bit.bit))
