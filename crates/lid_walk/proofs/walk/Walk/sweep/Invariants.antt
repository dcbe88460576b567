use Rattle.lid_walk.proofs.Sweeping.{IsPartway}
use Rattle.lid_walk.proofs.walk.Walk.sweep.Given as goal

abbrev pub invariant-loop-actor : goal.invariant-loop-actor
invariant-loop-actor l = IsPartway l.actor l.fired l.fn.self l.self
