use Rattle.lid_clock.specs.Starts.{IsReadied}
use Rattle.lid_base.proofs.Upto.{Upto}
use Rattle.lid_clock.proofs.readying.make_all_ready.Given as goal

abbrev pub invariant-loop-v : goal.invariant-loop-v
invariant-loop-v l = Upto (λ v old new. IsReadied l.some old new) l.v l.initial.actors l.actors
