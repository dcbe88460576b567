-- When an actor may fire: below its cap, where each station that it drains holds a token and each that it
-- fills has room.
use Rattle.std.specs.Prelude.{◌≡◌, ℕ, ◌+◌, ◌<◌, ◌≤◌, ◌⊎◌}
use Rattle.lid_graph.specs.Firings.{Counts}
use Rattle.lid_stations.specs.declared.placement.Placement.{Placement}
use Rattle.lid_stations.specs.Placements.{Links, station_count}
use Rattle.lid_stations.specs.Stations.{filler, drainer, capacity}
use Rattle.lid_shell_laws.specs.Runs.{cap_of, in_count, out_count}

-- an actor may fire where actors have fired so often
pub record MayFire (l : Links) (p : Placement) (rows : ℕ) (counts : Counts) (v : ℕ) : Type 0 where
  pub below : counts v < cap_of l rows v
  pub tokens : (station : ℕ) → station < station_count p.relays → drainer l p station ≡ v → out_count l p counts station < in_count l p rows counts station
  pub room : (station : ℕ) → station < station_count p.relays → filler l p station ≡ v → in_count l p rows counts station < out_count l p counts station + capacity p station

-- an actor that drains a station finds it empty
pub record FindsVoid (l : Links) (p : Placement) (rows : ℕ) (counts : Counts) (v : ℕ) : Type 0 where
  pub station : ℕ
  pub there : station < station_count p.relays
  pub drains : drainer l p station ≡ v
  pub void : in_count l p rows counts station ≤ out_count l p counts station

-- an actor that fills a station finds it full
pub record FindsStop (l : Links) (p : Placement) (rows : ℕ) (counts : Counts) (v : ℕ) : Type 0 where
  pub station : ℕ
  pub there : station < station_count p.relays
  pub fills : filler l p station ≡ v
  pub stop : out_count l p counts station + capacity p station ≤ in_count l p rows counts station

-- an actor may not fire
abbrev pub MayNotFire : Links → Placement → ℕ → Counts → ℕ → Type 0
MayNotFire l p rows counts v = (cap_of l rows v ≤ counts v) ⊎ (FindsVoid l p rows counts v ⊎ FindsStop l p rows counts v)

-- no station was left by more tokens than were put, or holds more than its capacity
pub record HoldsFew (l : Links) (p : Placement) (rows : ℕ) (counts : Counts) (station : ℕ) : Type 0 where
  pub ordered : out_count l p counts station ≤ in_count l p rows counts station
  pub within : in_count l p rows counts station ≤ out_count l p counts station + capacity p station
  pub few : in_count l p rows counts station ≤ rows
