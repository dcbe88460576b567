use Rattle.std.proofs.Common.{take}
use Rattle.std.specs.List.{All}
use Rattle.lid_cert_text.specs.Printed.{IsSmallVia}
use Rattle.lid_cert_text.proofs.ranges.are_vias_small.Given as goal

abbrev pub invariant-loop-via : goal.invariant-loop-via
invariant-loop-via l = All IsSmallVia (take l.via-index l.vias)
