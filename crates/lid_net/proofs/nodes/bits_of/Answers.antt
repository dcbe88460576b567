use Rattle.std.proofs.Common.{List, ◌++◌, ◌∷◌, [], take, sym, subst, ◌+◌}
use Rattle.lid_system.specs.declared.InBit.{InBit}
use Rattle.lid_net.specs.Nodes.{AreInBits}
use Rattle.lid_net.proofs.Wired.{bits_more}
use Rattle.lid_net.proofs.nodes.bits_of.Goals as goal

pub loop-number-preserved : goal.loop-number-preserved
loop-number-preserved c channels carry =
    subst (λ (xs : List InBit). AreInBits channels c.args.wiring.now.origins.items c.args.to (take (c.loop-number.number-index + 1) c.args.ins.now) xs) (sym c.in_ok-push.ensures.items)
    (bits_more channels c.args.wiring.now.origins.items c.args.to c.args.ins.now c.loop-number.number-index c.loop-number.bits.items _ c.loop-number-test.true (c.loop-number.invariant channels carry) (c.bit_of.ensures channels carry))
