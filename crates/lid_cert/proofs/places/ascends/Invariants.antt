use Rattle.std.proofs.Common.{◌≡◌, length}
use Rattle.lid_cert.specs.Certificates.{rises}
use Rattle.lid_cert.proofs.places.ascends.Given as goal

abbrev pub invariant-loop-rest : goal.invariant-loop-rest
invariant-loop-rest l = rises l.low l.rest ≡ rises 0 l.fn.numbers

abbrev pub decreases-loop-rest : goal.decreases-loop-rest
decreases-loop-rest l = length l.rest
