use Rattle.lid_clock_flat.specs.Reads.{AreOffered}
use Rattle.lid_clock_flat.proofs.reads.offer_all.Given as goal

abbrev pub invariant-loop-i : goal.invariant-loop-i
invariant-loop-i l = AreOffered l.reads l.tokens l.i l.initial.stations l.stations
