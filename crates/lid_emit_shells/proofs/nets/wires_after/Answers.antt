use Rattle.std.proofs.Common.{length, map, ◌∙◌, ap}
use Rattle.lid_design.specs.Flat.{latch_out}
use Rattle.lid_emit_cells.specs.declared.wire.Wire.TheVariants.{Later}
use Rattle.lid_emit_shells.specs.Filling.{wire_read}
use Rattle.lid_emit_shells.proofs.Filled.{length_written}
use Rattle.lid_emit_shells.proofs.Inside.{inputs_inside, covers_inside, latches_inside}
use Rattle.lid_base.proofs.Each.{each_length}
use Rattle.lid_emit_shells.proofs.nets.wires_after.Goals as goal

pub put_wires-requires-clause-within : goal.put_wires-requires-clause-within
put_wires-requires-clause-within c =
    inputs_inside c.args.flat.now c.requires.rules (length c.in_ok-after.after.items) c.as_slice.result.now (ap length c.in_ok-after.ensures ∙ each_length (Later c.args.v) 0 c.args.flat.now.nets) c.as_slice.ensures

pub put_latches-requires : goal.put_latches-requires
put_latches-requires c =
    record {
      within = latches_inside c.args.flat.now c.requires.rules (length c.args.here.now) (length c.put_wires.new.wires.items) c.as_slice-2.result.now c.requires.here
          (ap length c.put_wires.ensures ∙ length_written c.as_slice.result.now c.args.reads.now c.in_ok-after.after.items ∙ ap length c.in_ok-after.ensures ∙ each_length (Later c.args.v) 0 c.args.flat.now.nets)
          c.as_slice-2.ensures;
    }

pub pass_on-requires-clause-within : goal.pass_on-requires-clause-within
pass_on-requires-clause-within c =
    covers_inside c.args.flat.now c.requires.rules (length c.put_latches.new.wires.items) c.as_slice-3.result.now
    (ap length c.put_latches.ensures ∙ length_written (map latch_out c.as_slice-2.result.now) (map (wire_read c.args.here.now) c.as_slice-2.result.now) c.put_wires.new.wires.items
    ∙ ap length c.put_wires.ensures ∙ length_written c.as_slice.result.now c.args.reads.now c.in_ok-after.after.items ∙ ap length c.in_ok-after.ensures ∙ each_length (Later c.args.v) 0 c.args.flat.now.nets)
    c.as_slice-3.ensures
