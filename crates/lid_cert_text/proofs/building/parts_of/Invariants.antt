use Rattle.std.proofs.Common.{◌≡◌, ◌++◌, length}
use Rattle.lid_cert_text.specs.Texts.{parts_of}
use Rattle.lid_cert_text.proofs.building.parts_of.Given as goal

abbrev pub invariant-loop-rest : goal.invariant-loop-rest
invariant-loop-rest l = l.parts.items ++ parts_of l.rest ≡ parts_of l.fn.lines

abbrev pub decreases-loop-rest : goal.decreases-loop-rest
decreases-loop-rest l = length l.rest
