use Rattle.lid_clock.specs.States.{Decides}
use Rattle.lid_clock.specs.Cycles.{held_at}
use Rattle.lid_base.proofs.Upto.{Upto}
use Rattle.lid_clock.proofs.cycle.decide_all.Given as goal

abbrev pub invariant-loop-v : goal.invariant-loop-v
invariant-loop-v l = Upto (λ v old new. Decides old l.stations (held_at l.sunk l.source l.sink v) new) l.v l.initial.actors l.actors
