use Rattle.std.specs.Prelude.{false}
use Rattle.lid_clock.specs.States.{Decides}
use Rattle.lid_base.proofs.Upto.{Upto}
use Rattle.lid_parclock.proofs.deciding.decide_share.Given as goal

-- the actors before this one have decided
abbrev pub invariant-loop-i : goal.invariant-loop-i
invariant-loop-i l = Upto (λ _ old new. Decides old l.stations false new) l.i l.initial.share l.share
