-- The strict streams of a run, station by station.
use Rattle.std.proofs.Common.{◌≡◌, ℕ, ◌+◌, ◌<◌, Bool, List, length, get_or, sym, ◌∙◌, ap, arith}
use Rattle.std.specs.Prelude.{Some, slice_get}
use Rattle.std.proofs.Math.Logic.{∥∥₁_elim}
use Rattle.std.proofs.lemmas.Option.{get_or_from_slice_get}
use mathlib.Core.HLevel.{Π_prop, Σ_prop_path}
use base.Stored.{Coded-set, coded_ℕ, coded_list}
use Rattle.lid_design.specs.Network.{Table}
use Rattle.lid_base.specs.Each.{from_each}
use Rattle.lid_design.proofs.Tables.{has_table}
use Rattle.lid_system.specs.declared.System.{System}
use Rattle.lid_system.specs.declared.Channel.{Channel}
use Rattle.lid_system.specs.Systems.{Point, IsWellFormed}
use Rattle.lid_system.specs.Tables.{IsTable, system_drivers}
use Rattle.lid_system.specs.Streams.{token_at, IsStream}
use Rattle.lid_system.proofs.Points.{points_once}
use Rattle.lid_system.proofs.Streaming.{some_stream}
use Rattle.lid_system.proofs.Walking.{limit, points_end}
use Rattle.lid_stations.specs.declared.placement.Placement.{Placement}
use Rattle.lid_stations.specs.Placements.{links_of, station_count, Fits}
use Rattle.lid_stations.specs.Stations.{spot_at, channel_at, no_channel}
use Rattle.lid_stations.proofs.Spots.{spot_of_station}
use Rattle.lid_walk_machine.specs.Plans.{stations_of, stream}
use Rattle.lid_walk_machine.specs.Setups.{plan}
use Rattle.lid_base.proofs.Each.{each_same}

-- the streams of all stations in a table, in order
abbrev pub streams_by : System → Placement → List (List Bool) → Table Point → List (List ℕ)
streams_by s p rows b = from_each (stream (plan (record { system = s; placement = p; input = rows; table = b }))) 0 (station_count p.relays)

-- these are the strict streams of all stations: each table gives them
abbrev pub AreStreams : System → Placement → List (List Bool) → List (List ℕ) → Type 0
AreStreams s p rows streams = (b : Table Point) → IsTable s rows b → streams ≡ streams_by s p rows b

-- there are such streams
abbrev pub HasStreams : System → Placement → List (List Bool) → Type 0
HasStreams s p rows = (streams : List (List ℕ)) × AreStreams s p rows streams

are_prop : (s : System) (p : Placement) (rows : List (List Bool)) (streams : List (List ℕ)) → IsProp (AreStreams s p rows streams)
are_prop s p rows streams = Π_prop (λ b. Π_prop (λ table. Coded-set (coded_list (coded_list coded_ℕ)) streams (streams_by s p rows b)))

table_of : (s : System) (rows : List (List Bool)) → IsWellFormed s → (b : Table Point) × IsTable s rows b
table_of s rows well = has_table (system_drivers s) (limit s well) (points_end s well) (points_once s well) rows

-- one station has one stream
one_stream : (s : System) (p : Placement) (rows : List (List Bool)) → IsWellFormed s → Fits s p → (b b' : Table Point) → IsTable s rows b → IsTable s rows b' → (station : ℕ) → station < station_count p.relays
    → stream (plan (record { system = s; placement = p; input = rows; table = b })) station ≡ stream (plan (record { system = s; placement = p; input = rows; table = b' })) station
one_stream s p rows well fits b b' table table' station there =
    let c = (spot_at p.relays station).channel in
    let below = (spot_of_station p.relays station there).below in
    let some = some_stream s well rows c (omega (arith, below, fits.counts)) in
    let channel = some.1.channel in
    let is : channel_at (links_of s) c ≡ channel = get_or_from_slice_get s.channels c channel no_channel some.1.is_channel in
    ap (λ (ch : Channel). from_each (token_at s b ch) 0 (length rows)) is ∙ sym (some.1.each b table) ∙ some.1.each b' table'
    ∙ sym (ap (λ (ch : Channel). from_each (token_at s b' ch) 0 (length rows)) is)

streams_some : (s : System) (p : Placement) (rows : List (List Bool)) → Fits s p → IsWellFormed s → HasStreams s p rows
streams_some s p rows fits well =
    let t = table_of s rows well in (
      streams_by s p rows t.0,
      λ b table. each_same (stream (plan (record { system = s; placement = p; input = rows; table = t.0 }))) (stream (plan (record { system = s; placement = p; input = rows; table = b }))) 0 (station_count p.relays)
          (λ station low. one_stream s p rows well fits t.0 b t.1 table station (omega (arith, low))),
    )

-- and no others, so that they are those of the system
the_streams : (s : System) (p : Placement) (rows : List (List Bool)) → Fits s p → ∥ IsWellFormed s ∥₁ → HasStreams s p rows
the_streams s p rows fits formed =
    ∥∥₁_elim formed
    (λ x y. Σ_prop_path (are_prop s p rows) (∥∥₁_elim formed (Coded-set (coded_list (coded_list coded_ℕ)) x.0 y.0) (λ well. let t = table_of s rows well in x.1 t.0 t.1 ∙ sym (y.1 t.0 t.1))))
    (streams_some s p rows fits)

pub streams_of : (s : System) (p : Placement) (rows : List (List Bool)) → Fits s p → ∥ IsWellFormed s ∥₁ → List (List ℕ)
streams_of s p rows fits formed = (the_streams s p rows fits formed).0

pub are_streams : (s : System) (p : Placement) (rows : List (List Bool)) (fits : Fits s p) (formed : ∥ IsWellFormed s ∥₁) → AreStreams s p rows (streams_of s p rows fits formed)
unfolding streams_of
are_streams s p rows fits formed = (the_streams s p rows fits formed).1
