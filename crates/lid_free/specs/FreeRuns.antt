-- How a free run ends.
use Rattle.std.specs.Prelude.{◌≡◌, ℕ, ◌+◌, ◌*◌, ◌<◌, ◌≤◌, ◌==◌, cond, List, [], ◌∷◌, length, get_or, Some, slice_get}
use Rattle.std.specs.List.{All, sum_by}
use Rattle.lid_base.specs.Each.{from_each}
use Rattle.lid_base.specs.declared.runs.Tally.{Tally}
use Rattle.lid_graph.specs.Firings.{no_hold}
use Rattle.lid_stations.specs.Stations.{start_count}
use Rattle.lid_shell_laws.specs.Runs.{fired_in}
use Rattle.lid_walk_machine.specs.Plans.{Plan, actors_of, stations_of, sink, ins_of, drainer_of, filler_of, cap, start_of, room_of}
use Rattle.lid_walk_machine.specs.Setups.{plan, output_rows}
use Rattle.lid_shell_laws.specs.Setups.{Setup}
use Rattle.lid_walk_machine.specs.Machine.{State, begun, out_count, IsSettled, sweeps}
use Rattle.lid_shell.specs.Parts.{AreColumnsAtSink}
use Rattle.lid_free_crew.specs.Tallies.{AddsUp, sum_below}
use Rattle.lid_free_crew.specs.Nothing.{no_turns}
use Rattle.lid_free_crew.specs.Alone.{run_from, rounds_of}
use Rattle.lid_free_crew.specs.Shares.{numbers_of}
use Rattle.lid_free.specs.Workers.{CountsRun}
use Rattle.lid_free.specs.declared.run.FreeEnd.{FreeEnd}

-- the rounds that are made: without rows none is
abbrev pub rounds_made : Plan → ℕ → ℕ
rounds_made m rounds = cond (m.rows == 0) 0 rounds

-- the tally of worker i, by how often each actor fired in the parallel phase: the turns of its actors, of which as
-- many fired as these did, and not more ended at the cap than those at their caps made beside their firings
pub record IsShareTally (m : Plan) (workers made : ℕ) (fired : List ℕ) (i : ℕ) (t : Tally) : Type 0 where
  pub turns_are : t.turns ≡ made * length (numbers_of workers i (actors_of m))
  pub fired_are : t.fired ≡ sum_by (λ v. get_or fired v 0) (numbers_of workers i (actors_of m))
  pub adds_up : AddsUp t
  pub dones_most :
      t.dones + sum_by (λ v. cond (get_or fired v 0 == cap m v) (get_or fired v 0) 0) (numbers_of workers i (actors_of m))
      ≤ made * sum_by (λ v. cond (get_or fired v 0 == cap m v) 1 0) (numbers_of workers i (actors_of m))

-- how often actors fired, and how many tokens were taken from stations, in the parallel phase: no actor fired beyond
-- its cap, each station was left by as many tokens as its drainer fired, and it holds 0 to its capacity
pub record FitStations (m : Plan) (fired passed : List ℕ) : Type 0 where
  pub capped : (v : ℕ) → v < actors_of m → get_or fired v 0 ≤ cap m v
  pub drained : (station : ℕ) → station < stations_of m → get_or passed station 0 ≡ get_or fired (drainer_of m station) 0
  pub some : (station : ℕ) → station < stations_of m → get_or passed station 0 ≤ start_of m station + get_or fired (filler_of m station) 0
  pub few : (station : ℕ) → station < stations_of m → start_of m station + get_or fired (filler_of m station) 0 ≤ get_or passed station 0 + room_of m station

-- no actor fired more often than rounds were made: a round has one turn of it
abbrev pub AreWithinRounds : Plan → ℕ → List ℕ → Type 0
AreWithinRounds m made fired = (v : ℕ) → v < actors_of m → get_or fired v 0 ≤ made

-- an actor that may fire and drains home stations only, or none, fired: nothing can stop its first turn
abbrev pub FirstTurnsFire : Plan → List ℕ → Type 0
FirstTurnsFire m fired =
    (v : ℕ)
    → v < actors_of m → 0 < cap m v
    → ((i station : ℕ) → slice_get (ins_of m v) i ≡ Some station → start_count m.placement station ≡ 1)
    → 0 < get_or fired v 0

-- one worker alone makes sweeps of the interleaving machine
pub record AreSweeps (m : Plan) (made : ℕ) (tallies : List Tally) (fired passed : List ℕ) : Type 0 where
  pub tally : tallies ≡ (rounds_of m (from_each (λ v. v) 0 (actors_of m)) made (run_from begun)).tally ∷ []
  pub fired_are : (v : ℕ) → v < actors_of m → get_or fired v 0 ≡ (sweeps m begun made v).fired
  pub passed_are : (station : ℕ) → station < stations_of m → get_or passed station 0 ≡ out_count m (sweeps m begun made) station

-- all actors at rest, each having fired as often as its number here says
abbrev pub state_of_counts : List ℕ → State
state_of_counts fired v = record { fired = get_or fired v 0; position = 0 }

-- the sweeps that follow the parallel phase, in which actors fired so often, bring all actors to their caps, and fewer
-- do not; they are no more than a clocked run needs cycles for that, and each has a firing
pub record Finishes (m : Plan) (tallies : List Tally) (fired : List ℕ) (finish finish_fired : ℕ) : Type 0 where
  pub settled : IsSettled m (sweeps m (state_of_counts fired) finish)
  pub not_before : (k : ℕ) → k < finish → IsSettled m (sweeps m (state_of_counts fired) k) → ⊥
  pub all_fired : sum_by (λ t. t.fired) tallies + finish_fired ≡ sum_below (cap m) (actors_of m)
  pub settles : (k : ℕ) → ((v : ℕ) → v < actors_of m → fired_in m.links m.placement m.rows no_hold k v ≡ cap m v) → finish ≤ k
  pub fires : finish ≤ finish_fired

-- nothing was done
pub record IsNothing (e : FreeEnd) : Type 0 where
  pub tallies_none : All (λ t. t ≡ no_turns) e.tallies
  pub fired_none : All (λ n. n ≡ 0) e.fired
  pub passed_none : All (λ n. n ≡ 0) e.passed
  pub finish_none : e.finish ≡ 0
  pub finish_fired_none : e.finish_fired ≡ 0

-- what the laws of free runs allow of their ends, but for the rows
pub record IsLawful (m : Plan) (workers rounds : ℕ) (e : FreeEnd) : Type 0 where
  pub tallies_many : length e.tallies ≡ workers
  pub fired_many : length e.fired ≡ actors_of m
  pub passed_many : length e.passed ≡ stations_of m
  pub tallies_are : (i : ℕ) (t : Tally) → slice_get e.tallies i ≡ Some t → IsShareTally m workers (rounds_made m rounds) e.fired i t
  pub fit : FitStations m e.fired e.passed
  pub few : AreWithinRounds m (rounds_made m rounds) e.fired
  pub first : 0 < rounds_made m rounds → FirstTurnsFire m e.fired
  pub alone : workers ≡ 1 → AreSweeps m (rounds_made m rounds) e.tallies e.fired e.passed
  pub finishes : Finishes m e.tallies e.fired e.finish e.finish_fired
  pub nothing : m.rows ≡ 0 → IsNothing e

-- the strict output rows, and what workers and sweeps did; and there is a run of the workers, turn by turn, of which
-- these are the tallies and the firings
pub record IsFreeEnd (m : Setup) (workers rounds : ℕ) (e : FreeEnd) : Type 0 where
  pub columns : AreColumnsAtSink m (sink (plan m)) e.rows.columns
  pub rows : e.rows.bits ≡ output_rows m (length m.input)
  pub lawful : IsLawful (plan m) workers rounds e
  pub run : CountsRun m workers (rounds_made (plan m) rounds) e.tallies e.fired
