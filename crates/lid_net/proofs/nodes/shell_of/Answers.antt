use Rattle.std.proofs.Common.{◌+◌, ℕ, List, refl, subst}
use Rattle.lid_net.specs.Nodes.{AreInBits}
use Rattle.lid_net.proofs.nodes.shell_of.Goals as goal

pub returns : goal.returns
returns c channels carry = record {
  pearl = c.in_ok-pearl.pearl;
  of = c.in_ok-pearl.ensures;
  ins = c.in_ok-ins.ins;
  is = refl;
  bits = subst (λ (ks : List ℕ). AreInBits channels c.args.wiring.now.origins.items (c.args.pearl + 1) ks c.in_ok-ins.ins) c.as_slice.ensures (c.in_ok-ins.ensures channels carry);
}
