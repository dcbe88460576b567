-- The stations that actors drain and fill, as they are joined one by one.
use Rattle.std.specs.Prelude.{◌≡◌, ℕ, ◌==◌, Bool, if◌then◌else◌, List, [], ◌∷◌, ◌++◌, length, map, filter, Some, slice_get}
use Rattle.lid_base.specs.Each.{from_each}
use Rattle.lid_emit_circuit.specs.Plans.{CircuitPlan}
use Rattle.lid_emit_cells.specs.declared.actor.Fill.{Fill}
use Rattle.lid_emit_cells.specs.declared.station.Station.{Station}
use Rattle.lid_emit_cells.specs.Matches.{station_of}
use Rattle.lid_emit_layout.specs.declared.ends.Ends.{Ends}

-- of the first n stations those that an actor has at this side
abbrev pub stations_at : (ℕ → ℕ) → ℕ → ℕ → List ℕ
stations_at side n v = filter (λ s. side s == v) (from_each (λ s. s) 0 n)

-- so many actors, to which no station is joined
pub record AreUnjoined (actors : ℕ) (ends : List Ends) : Type 0 where
  pub many : length ends ≡ actors
  pub each : (v : ℕ) (e : Ends) → slice_get ends v ≡ Some e → (e.ins.items ≡ []) × (e.outs.items ≡ [])

-- an actor to which the first n stations of a plan are joined
pub record IsActorJoined (q : CircuitPlan) (n v : ℕ) (e : Ends) : Type 0 where
  pub ins : stations_at q.drainer n v ≡ e.ins.items
  pub outs : stations_at q.filler n v ≡ map station_of e.outs.items
  pub capacities : (i : ℕ) (fill : Fill) → slice_get e.outs.items i ≡ Some fill → q.capacity fill.station ≡ fill.capacity

abbrev pub AreJoined : CircuitPlan → ℕ → List Ends → Type 0
AreJoined q n ends = (v : ℕ) (e : Ends) → slice_get ends v ≡ Some e → IsActorJoined q n v e

-- a station was joined to an actor, where that drains it, and where that fills it
pub record IsJoinedBy (drains fills : Bool) (s : ℕ) (station : Station) (old new : Ends) : Type 0 where
  pub ins : new.ins.items ≡ old.ins.items ++ (if drains then s ∷ [] else [])
  pub outs : new.outs.items ≡ old.outs.items ++ (if fills then record { station = s; capacity = station.capacity } ∷ [] else [])

-- a station was joined to the actors that fill and drain it
pub record Joins (s : ℕ) (station : Station) (old new : List Ends) : Type 0 where
  pub many : length new ≡ length old
  pub each : (v : ℕ) (e : Ends) → slice_get new v ≡ Some e → (d : Ends) × (slice_get old v ≡ Some d) × IsJoinedBy (station.drainer == v) (station.filler == v) s station d e
