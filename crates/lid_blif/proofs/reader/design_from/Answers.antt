use Rattle.std.proofs.Common.{[]}
use Rattle.lid_blif.proofs.Faults.{narrow_lines}
use Rattle.lid_blif.proofs.reader.design_from.Goals as goal

pub design_of-requires : goal.design_of-requires
design_of-requires c = narrow_lines [] c.args.lines.now c.in-Ok.ensures.ok
