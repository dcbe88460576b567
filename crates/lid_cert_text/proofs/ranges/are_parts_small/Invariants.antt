use Rattle.std.proofs.Common.{take}
use Rattle.std.specs.List.{All}
use Rattle.lid_cert_text.specs.Printed.{IsPartSmall}
use Rattle.lid_cert_text.proofs.ranges.are_parts_small.Given as goal

abbrev pub invariant-loop-part : goal.invariant-loop-part
invariant-loop-part l = All IsPartSmall (take l.part-index l.parts)
