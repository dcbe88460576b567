-- What a step of an actor does to it and to the board.
use Rattle.std.specs.Prelude.{◌≡◌, ℕ, ◌+◌, ◌<◌, ◌≤◌, ◌⊎◌, ◌==◌, Bool, true, false, if◌then◌else◌, List, ◌++◌, length, Option, Some, None, option_map, slice_get}
use Rattle.lid_base.specs.declared.runs.Answer.{Answer}
use Rattle.lid_base.specs.declared.runs.Answer.TheVariants.{Token, Void, Room, Stop, Took, Put, Fired, Done}
use Rattle.lid_station.specs.Boards.{Facts, Ends, fill, drain, noted}
use Rattle.lid_walk_machine.specs.Plans.{cap, stream}
use Rattle.lid_walk_machine.specs.Setups.{plan}
use Rattle.lid_shell_laws.specs.Setups.{Setup}
use Rattle.lid_walk_machine.specs.Machine.{Progress, State, answer_as, after_as, finds}
use Rattle.lid_shell.specs.declared.actor.Actor.{Actor}
use Rattle.lid_shell.specs.Boards.{Agrees}
use Rattle.lid_shell.specs.Actors.{IsActor}

-- actor v, that far, and a board that agrees with it and stands for the streams
pub record Works (m : Setup) (v : ℕ) (q : Progress) (a : Actor) (ends : Ends) (stands : (ℕ → List ℕ) → Type 0) : Type 0 where
  pub actor : IsActor m v q a
  pub agrees : Agrees m v q ends
  pub streams : stands (stream (plan m))

-- an actor can make a step at a board: it is one of a setup, and the board agrees with it
abbrev pub CanStep : Actor → Ends → ((ℕ → List ℕ) → Type 0) → Type 0
CanStep a ends stands = (m : Setup) × (v : ℕ) × (q : Progress) × Works m v q a ends stands

-- and a turn, where it is at rest
abbrev pub CanTurn : Actor → Ends → ((ℕ → List ℕ) → Type 0) → Type 0
CanTurn a ends stands = (m : Setup) × (v : ℕ) × (fired : ℕ) × Works m v (record { fired = fired; position = 0 }) a ends stands

-- whether a look, if this is the answer of one, found what it looked for
abbrev pub found_in : Answer → Bool
found_in (Void station told) = false
found_in (Stop station told) = false
found_in _ = true

-- an actor has made the step of the machine: it answers what the machine answers, and is as far
pub record MakesStep (m : Setup) (v : ℕ) (q : Progress) (answer : Answer) (a : Actor) (ends : Ends) (stands : (ℕ → List ℕ) → Type 0) : Type 0 where
  pub answers : answer ≡ answer_as (plan m) v q (found_in answer)
  pub works : Works m v (after_as (plan m) v q (found_in answer)) a ends stands

-- where the board serves both ends of each of its stations by a state of the machine, a look finds what it looks for
-- exactly where the counts say so. At its cap an actor does not look
abbrev pub IsExact : Setup → State → ℕ → Answer → Type 0
IsExact m st v answer = (st v).fired < cap (plan m) v → found_in answer ≡ finds (plan m) st v

-- the end at which a look missed
abbrev pub missed_end : Answer → Option ℕ
missed_end (Void station told) = Some (drain station)
missed_end (Stop station told) = Some (fill station)
missed_end _ = None

-- how many misses are counted at an end that had so many, where a look missed at one end, or none did
abbrev pub misses_after : Option ℕ → ℕ → Option ℕ → Option ℕ
misses_after None end misses = misses
misses_after (Some at) end misses = if end == at then option_map (λ n. n + 1) misses else misses

-- an end is one of these that are drained, or of those that are filled
abbrev pub IsOwn : List ℕ → List ℕ → ℕ → Type 0
IsOwn ins outs end =
    (station : ℕ) × (i : ℕ) × (((slice_get ins i ≡ Some station) × (end ≡ drain station)) ⊎ ((slice_get outs i ≡ Some station) × (end ≡ fill station)))

-- the end at which the step that is so answered was made: a look, a take or a put. None was made where an actor without
-- stations fired, and at the cap
abbrev pub made_end : Answer → Option ℕ
made_end (Token station token) = Some (drain station)
made_end (Void station told) = Some (drain station)
made_end (Room station) = Some (fill station)
made_end (Stop station told) = Some (fill station)
made_end (Took station token fired) = Some (drain station)
made_end (Put station token fired) = Some (fill station)
made_end Fired = None
made_end Done = None

-- one step was noted at this end and no other one, where steps are noted; where there is no end, none was
abbrev pub NotesStep : Option ℕ → Option (List ℕ) → Option (List ℕ) → Type 0
NotesStep None old new = new ≡ old
NotesStep (Some end) old new = new ≡ noted end old

-- one step was noted, where steps are noted: at an end of these stations
abbrev pub NotesOne : List ℕ → List ℕ → Option (List ℕ) → Option (List ℕ) → Type 0
NotesOne ins outs old new = (end : ℕ) × IsOwn ins outs end × (new ≡ noted end old)

-- these steps were noted, the latest first, where steps are noted: at ends of these stations alone
pub record Notes (ins outs made : List ℕ) (old new : Option (List ℕ)) : Type 0 where
  pub are : new ≡ option_map (λ (ends : List ℕ). made ++ ends) old
  pub own : (i end : ℕ) → slice_get made i ≡ Some end → IsOwn ins outs end

-- an actor that was so noted its steps: at its own ends alone, and at least one where it was below its cap and has
-- a station
pub record NotesOwn (a : Actor) (old new : Option (List ℕ)) : Type 0 where
  pub made : List ℕ
  pub notes : Notes a.desk.ins.items a.desk.outs.items made old new
  pub some : (a.desk.fired ≡ a.desk.cap → ⊥) → 0 < length a.desk.ins.items + length a.desk.outs.items → 0 < length made

-- what was known at an end, and what is known now, where a look missed at one end, or none did
pub record Stays (missed : Option ℕ) (end : ℕ) (old new : Facts) : Type 0 where
  pub cap : new.cap ≡ old.cap
  pub start : new.start ≡ old.start
  pub misses : new.misses ≡ misses_after missed end old.misses

-- only ends of these stations changed, none is served more or less, and one miss was made where a look missed, and
-- none at another end
pub record Moves (ins outs : List ℕ) (missed : Option ℕ) (old new : Ends) : Type 0 where
  pub others : (end : ℕ) → (IsOwn ins outs end → ⊥) → new end ≡ old end
  pub none : (end : ℕ) → old end ≡ None → new end ≡ None
  pub some : (end : ℕ) (f : Facts) → old end ≡ Some f → (g : Facts) × (new end ≡ Some g) × Stays missed end f g

-- a look misses at a drained end only once all tokens that the station started with were taken, and at a filled end
-- only once its capacity was put
abbrev pub MissesLate : Ends → Answer → Type 0
MissesLate ends (Void station told) = (f : Facts) → ends (drain station) ≡ Some f → f.start ≤ f.passed
MissesLate ends (Stop station told) = (f : Facts) → ends (fill station) ≡ Some f → f.cap ≤ f.passed
MissesLate ends _ = Unit {0}
