-- How a board agrees with an actor: what it serves of the actor's stations, by the numbers of the interleaving
-- machine.
use Rattle.std.specs.Prelude.{◌≡◌, ℕ, ◌+◌, ◌<◌, ◌≤◌, true, length, Some, slice_get}
use Rattle.lid_station.specs.Boards.{Facts, Ends, fill, drain}
use Rattle.lid_walk_machine.specs.Plans.{ins_of, outs_of, start_of, room_of}
use Rattle.lid_walk_machine.specs.Setups.{plan}
use Rattle.lid_shell_laws.specs.Setups.{Setup}
use Rattle.lid_walk_machine.specs.Machine.{Progress, State, takes_from, puts_from, taken_by, put_by, in_count, out_count}

-- an end is served, and this is so of what is known of it
abbrev pub IsEndWith : Ends → ℕ → (Facts → Type 0) → Type 0
IsEndWith ends end P = (f : Facts) × (ends end ≡ Some f) × P f

-- what is known of the station at place i of those that actor v drains: its capacity, as many tokens as the actor
-- has taken, and a token seen where the actor has looked and not yet taken
pub record IsDrainedBy (m : Setup) (v : ℕ) (q : Progress) (i station : ℕ) (f : Facts) : Type 0 where
  pub capacity : f.cap ≡ room_of (plan m) station
  pub passed : f.passed ≡ taken_by (plan m) v q i
  pub seen : i < q.position → q.position ≤ takes_from (length (ins_of (plan m) v)) (length (outs_of (plan m) v)) + i → f.mark ≡ true

-- and of the station at place j of those that it fills
pub record IsFilledBy (m : Setup) (v : ℕ) (q : Progress) (j station : ℕ) (f : Facts) : Type 0 where
  pub capacity : f.cap ≡ room_of (plan m) station
  pub passed : f.passed ≡ start_of (plan m) station + put_by (plan m) v q j
  pub seen : length (ins_of (plan m) v) + j < q.position → q.position ≤ puts_from (length (ins_of (plan m) v)) (length (outs_of (plan m) v)) + j → f.mark ≡ true

-- a board serves the ends of actor v in agreement with how far it is
pub record Agrees (m : Setup) (v : ℕ) (q : Progress) (ends : Ends) : Type 0 where
  pub drains : (i station : ℕ) → slice_get (ins_of (plan m) v) i ≡ Some station → IsEndWith ends (drain station) (IsDrainedBy m v q i station)
  pub fills : (j station : ℕ) → slice_get (outs_of (plan m) v) j ≡ Some station → IsEndWith ends (fill station) (IsFilledBy m v q j station)

-- a board serves both ends of a station, and as many tokens passed them as a state of the machine says
pub record ServesBoth (m : Setup) (st : State) (ends : Ends) (station : ℕ) : Type 0 where
  pub filled : IsEndWith ends (fill station) (λ f. f.passed ≡ in_count (plan m) st station)
  pub drained : IsEndWith ends (drain station) (λ f. f.passed ≡ out_count (plan m) st station)

-- a board serves both ends of each station of actor v by a state
pub record ServesAll (m : Setup) (st : State) (v : ℕ) (ends : Ends) : Type 0 where
  pub ins : (i station : ℕ) → slice_get (ins_of (plan m) v) i ≡ Some station → ServesBoth m st ends station
  pub outs : (j station : ℕ) → slice_get (outs_of (plan m) v) j ≡ Some station → ServesBoth m st ends station
