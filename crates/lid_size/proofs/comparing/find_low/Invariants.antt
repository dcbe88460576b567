use Rattle.lid_size.specs.Comparing.{AreAllKept}
use Rattle.lid_size.proofs.comparing.find_low.Given as goal

abbrev pub invariant-loop-i : goal.invariant-loop-i
invariant-loop-i l = AreAllKept l.wants l.cert.parts l.i
