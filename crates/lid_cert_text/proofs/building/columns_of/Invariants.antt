use Rattle.std.proofs.Common.{take}
use Rattle.lid_cert_text.specs.Columns.{AreColumns}
use Rattle.lid_cert_text.proofs.building.columns_of.Given as goal

abbrev pub invariant-loop-line : goal.invariant-loop-line
invariant-loop-line l = AreColumns l.columns (take l.line-index l.lines)
