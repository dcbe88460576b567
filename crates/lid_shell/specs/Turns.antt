-- What a turn of an actor does: its steps from rest until it is at rest again.
use Rattle.std.specs.Prelude.{◌≡◌, ◌↔◌, ℕ, ◌+◌, List, Some, slice_get}
use Rattle.lid_base.specs.declared.runs.Answer.{Answer}
use Rattle.lid_base.specs.declared.runs.Answer.TheVariants as answer
use Rattle.lid_station.specs.Boards.{Ends}
use Rattle.lid_walk_machine.specs.Plans.{ins_of, outs_of, cap, start_of}
use Rattle.lid_walk_machine.specs.Setups.{plan}
use Rattle.lid_shell_laws.specs.Setups.{Setup}
use Rattle.lid_walk_machine.specs.Machine.{void_word, stop_word}
use Rattle.lid_shell.specs.declared.actor.Actor.{Actor}
use Rattle.lid_shell.specs.declared.turn.TurnEnd.{TurnEnd}
use Rattle.lid_shell.specs.declared.turn.TurnEnd.TheVariants.{Fired, Void, Stop, Done}
use Rattle.lid_shell.specs.Steps.{Works}

-- the answer with which a turn ends, where it ends so
abbrev pub answer_at : TurnEnd → Answer
answer_at Fired = answer.Fired
answer_at (Void station told) = answer.Void station told
answer_at (Stop station told) = answer.Stop station told
answer_at Done = answer.Done

-- how often an actor has fired after a turn that ends so
abbrev pub fired_at : TurnEnd → ℕ → ℕ
fired_at Fired fired = fired + 1
fired_at _ fired = fired

-- a turn of actor v that had fired so often ends so: at a station that it drains or fills, with the word of the
-- next token's place, or at its cap
abbrev pub EndsSo : Setup → ℕ → ℕ → TurnEnd → Type 0
EndsSo m v fired Fired = Unit {0}
EndsSo m v fired (Void station told) = (i : ℕ) × (slice_get (ins_of (plan m) v) i ≡ Some station) × (told ≡ void_word (plan m) station fired)
EndsSo m v fired (Stop station told) = (j : ℕ) × (slice_get (outs_of (plan m) v) j ≡ Some station) × (told ≡ stop_word (plan m) station (start_of (plan m) station + fired))
EndsSo m v fired Done = Unit {0}

-- what a turn leaves
pub record Turned (m : Setup) (v fired : ℕ) (end : TurnEnd) (a : Actor) (ends : Ends) (stands : (ℕ → List ℕ) → Type 0) : Type 0 where
  pub ends_so : EndsSo m v fired end
  pub done : end ≡ Done ↔ fired ≡ cap (plan m) v
  pub works : Works m v (record { fired = fired_at end fired; position = 0 }) a ends stands
