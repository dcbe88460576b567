-- What all runs of a system with its stations share: how often an actor fires at most, the stations of each
-- actor, and which token a station is passed as which.
use Rattle.std.specs.Prelude.{ℕ, suc, ◌+◌, ◌-◌, ◌*◌, ◌≤◌, ◌==◌, min, nat_lt, if◌then◌else◌, List, [], ◌∷◌, filter}
use Rattle.std.specs.Int.{div_ceil}
use Rattle.lid_design.specs.Network.{Table}
use Rattle.lid_base.specs.Each.{from_each}
use Rattle.lid_graph.specs.Firings.{Counts, Hold, firings}
use Rattle.lid_graph.specs.Ratios.{IsRatio, IsLag}
use Rattle.lid_system.specs.declared.System.{System}
use Rattle.lid_system.specs.Systems.{Point}
use Rattle.lid_system.specs.Streams.{token_at}
use Rattle.lid_stations.specs.declared.placement.Placement.{Placement}
use Rattle.lid_stations.specs.Placements.{Links, links_of, station_count}
use Rattle.lid_stations.specs.Stations.{spot_at, channel_at, filler, drainer, start_count}
use Rattle.lid_stations.specs.Markings.{marking}

-- how often an actor fires in a run of so many rows: the sink and the movers once for each row, the source
-- and the shells once less
abbrev pub cap_of : Links → ℕ → ℕ → ℕ
cap_of l rows v = if nat_lt (v + 1) l.nodes then rows - 1 else rows

-- the sink is the last node
abbrev pub sink_of : Links → ℕ
sink_of l = l.nodes - 1

-- the tokens that a station starts with in a run of so many rows: without rows there is no token
abbrev pub starts_with : Placement → ℕ → ℕ → ℕ
starts_with p rows station = min (start_count p station) rows

-- the stations that an actor drains, in order
abbrev pub drained_by : Links → Placement → ℕ → List ℕ
drained_by l p v = filter (λ station. drainer l p station == v) (from_each (λ station. station) 0 (station_count p.relays))

-- the stations that an actor fills, in order
abbrev pub filled_by : Links → Placement → ℕ → List ℕ
filled_by l p v = filter (λ station. filler l p station == v) (from_each (λ station. station) 0 (station_count p.relays))

-- the first place of a number in a list
abbrev pub place_in : List ℕ → ℕ → ℕ
place_in [] x = 0
place_in (y ∷ ys) x = if y == x then 0 else suc (place_in ys x)

-- token number i of a station: the token of row i of its channel
abbrev pub token_of : System → Placement → Table Point → ℕ → ℕ → ℕ
token_of s p b station i = token_at s b (channel_at (links_of s) (spot_at p.relays station).channel) i

-- how often each actor has fired after k cycles of a run of so many rows
abbrev pub fired_in : Links → Placement → ℕ → Hold → ℕ → Counts
fired_in l p rows held k = firings (marking l p) (cap_of l rows) held k

-- how many tokens were put in a station, those that it started with included, where actors have fired so often
abbrev pub in_count : Links → Placement → ℕ → Counts → ℕ → ℕ
in_count l p rows counts station = starts_with p rows station + counts (filler l p station)

-- how many tokens were taken from it
abbrev pub out_count : Links → Placement → Counts → ℕ → ℕ
out_count l p counts station = counts (drainer l p station)

-- where p/q is the ratio of the sink's component and lag the sink's, a run ends within (q*N + lag)/p cycles,
-- rounded up
abbrev pub IsWithinLag : Links → Placement → ℕ → ℕ → Type 0
IsWithinLag l placement rows cycles =
    (p q lag : ℕ)
    → IsRatio (marking l placement) (sink_of l) p q → IsLag (marking l placement) p q (sink_of l) lag
    → cycles ≤ div_ceil (q * rows + lag) p
