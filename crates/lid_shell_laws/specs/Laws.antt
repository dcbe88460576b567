-- Laws of runs: the rule by which counts rise, the stations of each actor, and when a run ends.
use Rattle.std.specs.Prelude.{◌≡◌, ℕ, suc, ◌+◌, ◌*◌, ◌<◌, ◌≤◌, ◌⊎◌, true, false, [], ◌∷◌, length, map}
use Rattle.lid_design.specs.Network.{Table}
use Rattle.lid_graph.specs.Firings.{Hold, no_hold, AreFitCaps, IsFirstAtCap}
use Rattle.lid_system.specs.declared.System.{System}
use Rattle.lid_system.specs.Systems.{Point, IsWellFormed}
use Rattle.lid_shell_nodes.specs.Nodes.{tokens_to, tokens_from}
use Rattle.lid_stations.specs.declared.placement.Placement.{Placement}
use Rattle.lid_stations.specs.Placements.{links_of, station_count, Fits}
use Rattle.lid_stations.specs.Stations.{filler, start_count, actor_count}
use Rattle.lid_stations.specs.Markings.{marking}
use Rattle.lid_shell_laws.specs.Runs.{cap_of, sink_of, drained_by, filled_by, token_of, fired_in, IsWithinLag}
use Rattle.lid_shell_laws.specs.Rules.{MayFire, MayNotFire, HoldsFew}

-- in each cycle an actor that may fire and is not held fires once
abbrev pub ActorsFireWhereTheyMay : Type 0
ActorsFireWhereTheyMay =
    (s : System) (p : Placement) (rows : ℕ) (held : Hold) (k v : ℕ)
    → IsWellFormed s → Fits s p → v < actor_count (links_of s) p
    → held k v ≡ false → MayFire (links_of s) p rows (fired_in (links_of s) p rows held k) v
    → fired_in (links_of s) p rows held (suc k) v ≡ fired_in (links_of s) p rows held k v + 1

-- and one that may not, or is held, does not
abbrev pub ActorsRestWhereTheyMayNot : Type 0
ActorsRestWhereTheyMayNot =
    (s : System) (p : Placement) (rows : ℕ) (held : Hold) (k v : ℕ)
    → IsWellFormed s → Fits s p → v < actor_count (links_of s) p
    → (held k v ≡ true) ⊎ MayNotFire (links_of s) p rows (fired_in (links_of s) p rows held k) v
    → fired_in (links_of s) p rows held (suc k) v ≡ fired_in (links_of s) p rows held k v

-- after each cycle a station holds at least none and at most its capacity
abbrev pub StationsHoldFew : Type 0
StationsHoldFew =
    (s : System) (p : Placement) (rows : ℕ) (held : Hold) (k station : ℕ)
    → IsWellFormed s → Fits s p → station < station_count p.relays
    → HoldsFew (links_of s) p rows (fired_in (links_of s) p rows held k) station

-- the caps of actors fit the marking
abbrev pub CapsFit : Type 0
CapsFit = (s : System) (p : Placement) (rows : ℕ) → IsWellFormed s → Fits s p → AreFitCaps (marking (links_of s) p) (cap_of (links_of s) rows)

-- where nobody is held the run ends, after at most a cycle for each actor and each row
abbrev pub RunsEnd : Type 0
RunsEnd =
    (s : System) (p : Placement) (rows k : ℕ)
    → IsWellFormed s → Fits s p → actor_count (links_of s) p * rows ≤ k
    → fired_in (links_of s) p rows no_hold k (sink_of (links_of s)) ≡ rows

-- and it ends within the lag
abbrev pub RunsEndWithinLag : Type 0
RunsEndWithinLag =
    (s : System) (p : Placement) (rows cycles : ℕ)
    → IsWellFormed s → Fits s p
    → IsFirstAtCap (marking (links_of s) p) (cap_of (links_of s) rows) no_hold (sink_of (links_of s)) cycles
    → IsWithinLag (links_of s) p rows cycles

-- the stations that a node drains pass the tokens of the channels that lead to it
abbrev pub NodesDrainTheirChannels : Type 0
NodesDrainTheirChannels =
    (s : System) (p : Placement) (b : Table Point) (v i : ℕ)
    → IsWellFormed s → Fits s p → v < length s.nodes
    → map (λ station. token_of s p b station i) (drained_by (links_of s) p v) ≡ tokens_to s b v i

-- those that it fills pass the tokens of the channels that come from it
abbrev pub NodesFillTheirChannels : Type 0
NodesFillTheirChannels =
    (s : System) (p : Placement) (b : Table Point) (v i : ℕ)
    → IsWellFormed s → Fits s p → v < length s.nodes
    → map (λ station. token_of s p b station i) (filled_by (links_of s) p v) ≡ tokens_from s b v i

-- stations that nodes fill start with a token, and those that movers fill with none
abbrev pub StationsOfNodesStartWithAToken : Type 0
StationsOfNodesStartWithAToken =
    (s : System) (p : Placement) (station : ℕ)
    → IsWellFormed s → Fits s p → station < station_count p.relays
    → ((filler (links_of s) p station < length s.nodes) × (start_count p station ≡ 1)) ⊎ ((length s.nodes ≤ filler (links_of s) p station) × (start_count p station ≡ 0))

-- a mover drains one station and fills the next one, whose tokens are the same
pub record MovesOn (s : System) (p : Placement) (mover station : ℕ) : Type 0 where
  pub drained : drained_by (links_of s) p mover ≡ station ∷ []
  pub filled : filled_by (links_of s) p mover ≡ (station + 1) ∷ []
  pub tokens : (b : Table Point) (i : ℕ) → token_of s p b (station + 1) i ≡ token_of s p b station i

abbrev pub MoversMoveTokensOn : Type 0
MoversMoveTokensOn =
    (s : System) (p : Placement) (mover : ℕ)
    → IsWellFormed s → Fits s p → length s.nodes ≤ mover → mover < actor_count (links_of s) p
    → (station : ℕ) × MovesOn s p mover station
