use Rattle.std.proofs.Common.{[]}
use Rattle.lid_emit_cells.specs.declared.wire.Wire.TheVariants.{Now}
use Rattle.lid_base.proofs.Each.{each_pushed}
use Rattle.lid_emit_shells.proofs.nets.wires_now.Goals as goal

pub loop-k-preserved : goal.loop-k-preserved
loop-k-preserved c = each_pushed (Now c.args.v) [] c.loop-k.wires.items c.push.new.self.items c.loop-k.k c.loop-k.invariant c.in_ok-push.ensures.items
