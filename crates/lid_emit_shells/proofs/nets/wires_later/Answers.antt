use Rattle.std.proofs.Common.{[]}
use Rattle.lid_emit_cells.specs.declared.wire.Wire.TheVariants.{Later}
use Rattle.lid_base.proofs.Each.{each_pushed}
use Rattle.lid_emit_shells.proofs.nets.wires_later.Goals as goal

pub loop-k-preserved : goal.loop-k-preserved
loop-k-preserved c = each_pushed (Later c.args.v) [] c.loop-k.wires.items c.push.new.self.items c.loop-k.k c.loop-k.invariant c.in_ok-push.ensures.items
