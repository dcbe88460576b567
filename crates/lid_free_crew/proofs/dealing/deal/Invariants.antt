use Rattle.std.specs.Prelude.{◌≡◌, ◌%◌, length}
use Rattle.lid_free_crew.specs.Crews.{AreDealt}
use Rattle.lid_free_crew.proofs.dealing.deal.Given as goal

abbrev pub invariant-loop-actor : goal.invariant-loop-actor
invariant-loop-actor l = record {
  dealt : AreDealt l.yielded l.fn.crew l.crew;
  next : l.worker ≡ length l.yielded % length l.crew;
}
