use Rattle.std.proofs.Common.{◌+◌, ◌∷◌, [], length, arith, ◌∙◌, ap, length-append, sym}
use Rattle.lid_design.specs.Elaboration.{columns}
use Rattle.lid_net.specs.PearlParts.{AreShellPorts}
use Rattle.lid_net.proofs.Accepted.{few_pearls}
use Rattle.lid_base.proofs.Places.{pushed_each}
use Rattle.lid_net.proofs.pearls.collect_ports.Goals as goal

pub loop-pearl-preserved : goal.loop-pearl-preserved
loop-pearl-preserved c = record {
  long = ap length c.in_ok-push.ensures.items ∙ length-append c.loop-pearl.ports.items (c.in_ok-shell_ports.field-0 ∷ []) ∙ ap (λ n. n + 1) c.loop-pearl.invariant.long;
  each = pushed_each (AreShellPorts c.args.checked.now (length (columns c.args.checked.now))) c.loop-pearl.ports.items c.push.new.self.items c.in_ok-shell_ports.field-0 c.loop-pearl.pearl c.in_ok-push.ensures.items (sym c.loop-pearl.invariant.long) c.loop-pearl.invariant.each c.in_ok-shell_ports.ensures;
}

pub returns : goal.returns
returns c = record { long = c.loop-pearl.invariant.long ∙ (let a = c.loop-pearl-test.false in let b = c.loop-pearl.auto.pearl-end in let e = c.pearls-count.ensures in omega arith); few = few_pearls c.args.checked.now c.design.ensures.accepted.models; each = c.loop-pearl.invariant.each }
