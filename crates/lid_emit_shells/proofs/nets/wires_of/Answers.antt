use Rattle.std.proofs.Common.{length, ◌∙◌, ap}
use Rattle.lid_emit_shells.proofs.Standing.{length_here}
use Rattle.lid_emit_shells.proofs.nets.wires_of.Goals as goal

pub wires_after-requires-clause-here : goal.wires_after-requires-clause-here
wires_after-requires-clause-here c = ap length (c.as_slice.ensures.value ∙ c.in_ok-here.ensures) ∙ length_here c.args.v c.args.flat.now c.requires.rules c.args.reads.now c.requires.long
