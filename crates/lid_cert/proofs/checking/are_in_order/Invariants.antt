use Rattle.std.proofs.Common.{◌≡◌, length, map}
use Rattle.lid_cert.specs.Certificates.{rises, least_node}
use Rattle.lid_cert.proofs.checking.are_in_order.Given as goal

abbrev pub invariant-loop-rest : goal.invariant-loop-rest
invariant-loop-rest l = rises l.low (map least_node l.rest) ≡ rises 0 (map least_node l.fn.parts)

abbrev pub decreases-loop-rest : goal.decreases-loop-rest
decreases-loop-rest l = length l.rest
