-- Laws of the interleaving machine: what holds at each station whatever the order of steps, and how far sweeps
-- bring each actor.
use Rattle.std.specs.Prelude.{◌≡◌, ℕ, suc, ◌+◌, ◌<◌, ◌≤◌, length}
use Rattle.lid_graph.specs.Firings.{no_hold}
use Rattle.lid_shell_laws.specs.Runs.{fired_in}
use Rattle.lid_walk_machine.specs.Plans.{Plan, actors_of, stations_of, ins_of, outs_of, cap, room_of}
use Rattle.lid_walk_machine.specs.Setups.{plan}
use Rattle.lid_shell_laws.specs.Setups.{Setup, IsSetup}
use Rattle.lid_walk_machine.specs.Machine.{State, begun, takes_from, puts_from, ends_at, in_at, out_at, in_count, out_count, next, turn, sweep, IsSettled, sweeps}

-- the tokens that were taken from a station are the first of those that were put, these are the first of its
-- stream, and it holds at most its capacity. What was put and taken are the first tokens of the stream, as many
-- as the counts say
pub record KeepsPrefixes (m : Plan) (st : State) (station : ℕ) : Type 0 where
  pub ordered : out_count m st station ≤ in_count m st station
  pub within : in_count m st station ≤ m.rows
  pub few : in_count m st station ≤ out_count m st station + room_of m station

-- an actor is within its firings, and within a firing only where it is below its cap
pub record IsWithin (m : Plan) (st : State) (v : ℕ) : Type 0 where
  pub capped : (st v).fired ≤ cap m v
  pub below : 0 < (st v).position → (st v).fired < cap m v
  pub inside : 0 < (st v).position → (st v).position < ends_at (length (ins_of m v)) (length (outs_of m v))

-- what an actor has found and not yet used is still there: a token in each station that it looked at and did not
-- yet take from, and room in each that it looked at and did not yet put in
pub record FindsStay (m : Plan) (st : State) (v : ℕ) : Type 0 where
  pub tokens :
      (i : ℕ) → i < length (ins_of m v) → i < (st v).position
      → (st v).position ≤ takes_from (length (ins_of m v)) (length (outs_of m v)) + i → out_count m st (in_at m v i) < in_count m st (in_at m v i)
  pub rooms :
      (j : ℕ) → j < length (outs_of m v) → length (ins_of m v) + j < (st v).position
      → (st v).position ≤ puts_from (length (ins_of m v)) (length (outs_of m v)) + j → in_count m st (out_at m v j) < out_count m st (out_at m v j) + room_of m (out_at m v j)

-- a state that keeps the rules
pub record IsSound (m : Plan) (st : State) : Type 0 where
  pub actors : (v : ℕ) → v < actors_of m → IsWithin m st v
  pub stations : (station : ℕ) → station < stations_of m → KeepsPrefixes m st station
  pub finds : (v : ℕ) → v < actors_of m → FindsStay m st v

-- the first state keeps them
abbrev pub RunsBeginSound : Type 0
RunsBeginSound = (x : Setup) → IsSetup x → IsSound (plan x) begun

-- and each step of each actor keeps them: so they hold after every schedule, and a firing that has begun ends: no
-- take finds its station empty, and no put finds it full
abbrev pub StepsKeepSound : Type 0
StepsKeepSound = (x : Setup) (st : State) (v : ℕ) → IsSetup x → v < actors_of (plan x) → IsSound (plan x) st → IsSound (plan x) (next (plan x) st v)

-- all actors are at rest
abbrev pub AllRest : Plan → State → Type 0
AllRest m st = (v : ℕ) → v < actors_of m → (st v).position ≡ 0

-- each actor has fired at least as often as after k cycles of the clocked run in which nobody is held
abbrev pub HaveFired : Plan → State → ℕ → Type 0
HaveFired m st k = (v : ℕ) → v < actors_of m → fired_in m.links m.placement m.rows no_hold k v ≤ (st v).fired

-- what a turn leaves: the actor at rest, and the others as they were
pub record HasTurned (m : Plan) (v : ℕ) (old new : State) : Type 0 where
  pub sound : IsSound m new
  pub rests : (new v).position ≡ 0
  pub once : (new v).fired ≤ (old v).fired + 1
  pub goes_on : (old v).fired ≤ (new v).fired
  pub others : (w : ℕ) → (w ≡ v → ⊥) → new w ≡ old w

abbrev pub TurnsEndAtRest : Type 0
TurnsEndAtRest =
    (x : Setup) (st : State) (v : ℕ)
    → IsSetup x → v < actors_of (plan x) → IsSound (plan x) st → (st v).position ≡ 0 → HasTurned (plan x) v st (turn (plan x) st v)

-- what a sweep leaves: all actors at rest, and none with fewer firings
pub record HasSwept (m : Plan) (old new : State) : Type 0 where
  pub sound : IsSound m new
  pub rest : AllRest m new
  pub goes_on : (v : ℕ) → v < actors_of m → (old v).fired ≤ (new v).fired

abbrev pub SweepsEndAtRest : Type 0
SweepsEndAtRest = (x : Setup) (st : State) → IsSetup x → IsSound (plan x) st → AllRest (plan x) st → HasSwept (plan x) st (sweep (plan x) st)

-- a sweep takes each actor a cycle further
abbrev pub SweepsKeepUp : Type 0
SweepsKeepUp =
    (x : Setup) (st : State) (k : ℕ)
    → IsSetup x → IsSound (plan x) st → AllRest (plan x) st → HaveFired (plan x) st k → HaveFired (plan x) (sweep (plan x) st) (suc k)

-- so after k sweeps each actor has fired at least as often as after k cycles, whatever the state was before
abbrev pub SweepsKeepUpWithCycles : Type 0
SweepsKeepUpWithCycles =
    (x : Setup) (st : State) (k : ℕ)
    → IsSetup x → IsSound (plan x) st → AllRest (plan x) st → HasSwept (plan x) st (sweeps (plan x) st k) × HaveFired (plan x) (sweeps (plan x) st k) k

-- where k cycles bring each actor to its cap, k sweeps settle a state
abbrev pub SweepsSettle : Type 0
SweepsSettle =
    (x : Setup) (st : State) (k : ℕ)
    → IsSetup x → IsSound (plan x) st → AllRest (plan x) st
    → ((v : ℕ) → v < actors_of (plan x) → fired_in (plan x).links (plan x).placement (plan x).rows no_hold k v ≡ cap (plan x) v)
    → IsSettled (plan x) (sweeps (plan x) st k)

-- a sweep in which no actor fires leaves a settled state, so a sweep of any other fires at least once
abbrev pub IdleSweepsAreSettled : Type 0
IdleSweepsAreSettled =
    (x : Setup) (st : State)
    → IsSetup x → IsSound (plan x) st → AllRest (plan x) st
    → ((v : ℕ) → v < actors_of (plan x) → (sweep (plan x) st v).fired ≡ (st v).fired) → IsSettled (plan x) st
