use Rattle.std.proofs.Common.{length, ◌∙◌, ap}
use Rattle.lid_emit_cells.specs.declared.wire.Wire.TheVariants.{Now}
use Rattle.lid_emit_shells.proofs.Filled.{length_written}
use Rattle.lid_emit_shells.proofs.Inside.{inputs_inside, covers_inside}
use Rattle.lid_base.proofs.Each.{each_length}
use Rattle.lid_emit_shells.proofs.nets.wires_here.Goals as goal

pub put_wires-requires-clause-within : goal.put_wires-requires-clause-within
put_wires-requires-clause-within c =
    inputs_inside c.args.flat.now c.requires.rules (length c.in_ok-here.here.items) c.as_slice.result.now (ap length c.in_ok-here.ensures ∙ each_length (Now c.args.v) 0 c.args.flat.now.nets) c.as_slice.ensures

pub pass_on-requires-clause-within : goal.pass_on-requires-clause-within
pass_on-requires-clause-within c =
    covers_inside c.args.flat.now c.requires.rules (length c.put_wires.new.wires.items) c.as_slice-2.result.now
    (ap length c.put_wires.ensures ∙ length_written c.as_slice.result.now c.args.reads.now c.in_ok-here.here.items ∙ ap length c.in_ok-here.ensures ∙ each_length (Now c.args.v) 0 c.args.flat.now.nets)
    c.as_slice-2.ensures
