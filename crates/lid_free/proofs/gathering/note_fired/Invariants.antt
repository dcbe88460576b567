use Rattle.std.specs.Prelude.{◌≡◌, ℕ, ◌<◌, length, Some, slice_get, get_or}
use Rattle.lid_shell.specs.declared.actor.Actor.{Actor}
use Rattle.lid_free.proofs.gathering.note_fired.Given as goal

abbrev pub invariant-loop-actor : goal.invariant-loop-actor
invariant-loop-actor l = record {
  many : length l.fired ≡ length l.actors;
  each : (v : ℕ) (a : Actor) → v < l.actor → slice_get l.actors v ≡ Some a → slice_get l.fired v ≡ Some a.desk.fired;
}
