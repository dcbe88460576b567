use Rattle.lid_clock.specs.States.{Settles}
use Rattle.lid_base.proofs.Upto.{Upto}
use Rattle.lid_clock.proofs.settling.settle_each.Given as goal

-- the stations before this one have settled
abbrev pub invariant-loop-s : goal.invariant-loop-s
invariant-loop-s l = Upto (λ _ old new. Settles old l.actors new) l.s l.initial.stations l.stations
