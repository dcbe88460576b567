use Rattle.lid_clock.specs.Starts.{StationBegins}
use Rattle.lid_base.proofs.Upto.{Upto}
use Rattle.lid_clock.proofs.starting.begin_all.Given as goal

abbrev pub invariant-loop-i : goal.invariant-loop-i
invariant-loop-i l = Upto (λ i old new. StationBegins l.some l.nodes l.actors old new) l.i l.initial.stations l.stations
