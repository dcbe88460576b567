-- What a walk has at its stations.
use Rattle.std.specs.Prelude.{◌≡◌, ℕ, ◌+◌, ◌*◌, ◌%◌, ◌<◌, ◌≤◌, length, get_or, Some, slice_get}
use Rattle.lid_graph.specs.Firings.{no_hold}
use Rattle.lid_shell_laws.specs.Runs.{fired_in}
use Rattle.lid_station.specs.declared.pair.Pair.{Pair}
use Rattle.lid_walk_machine.specs.Plans.{actors_of, cap, stream, room_of}
use Rattle.lid_walk_machine.specs.Setups.{plan}
use Rattle.lid_shell_laws.specs.Setups.{Setup, IsSetup}
use Rattle.lid_walk_machine.specs.Machine.{State, in_count, out_count, IsSettled, sweeps}
use Rattle.lid_walk_machine.specs.Laws.{AllRest}
use Rattle.lid_walk.specs.declared.walk.Walk.{Walk}
use Rattle.lid_walk.specs.Walks.{Walks}

-- the tokens taken from a station are the first of those put in it, these are the first of its stream, and it holds
-- those between, at most as many as its capacity
pub record HoldsPrefix (m : Setup) (st : State) (station : ℕ) (p : Pair) : Type 0 where
  pub put : p.put ≡ in_count (plan m) st station
  pub taken : p.taken ≡ out_count (plan m) st station
  pub size : length p.places.items ≡ room_of (plan m) station
  pub ordered : p.taken ≤ p.put
  pub within : p.put ≤ length (stream (plan m) station)
  pub few : p.put ≤ p.taken + room_of (plan m) station
  pub holds : (i : ℕ) → p.taken ≤ i → i < p.put → get_or p.places.items (i % length p.places.items) 0 ≡ get_or (stream (plan m) station) i 0

-- so it is at each station of a walk, in whatever state
abbrev pub StationsHoldPrefixes : Type 0
StationsHoldPrefixes =
    (m : Setup) (st : State) (w : Walk) (station : ℕ) (p : Pair)
    → Walks m st w → slice_get w.board.pairs.items station ≡ Some p → HoldsPrefix m st station p

-- the clocked run in which nobody is held brings each actor to its cap, in at most a cycle for each actor and each row
abbrev pub RunsReachCaps : Type 0
RunsReachCaps =
    (m : Setup) (k v : ℕ)
    → IsSetup m → actors_of (plan m) * length m.input ≤ k → v < actors_of (plan m)
    → fired_in (plan m).links (plan m).placement (plan m).rows no_hold k v ≡ cap (plan m) v

-- so as many sweeps settle a walk, from whatever state in which all actors are at rest
abbrev pub SweepsSettleWalks : Type 0
SweepsSettleWalks =
    (m : Setup) (st : State) (w : Walk) (k : ℕ)
    → Walks m st w → AllRest (plan m) st → actors_of (plan m) * length m.input ≤ k → IsSettled (plan m) (sweeps (plan m) st k)
