use Rattle.lid_clock_flat.specs.Layings.{AreFlattened}
use Rattle.lid_clock_flat.proofs.laying.lay_all.Given as goal

-- the stations before this one were laid
abbrev pub invariant-loop-s : goal.invariant-loop-s
invariant-loop-s l = AreFlattened l.stations l.s l.flat
