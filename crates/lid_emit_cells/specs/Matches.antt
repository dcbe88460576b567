-- When stations, actors and shells of the program are those of a plan.
use Rattle.std.specs.Prelude.{◌≡◌, ℕ, ◌+◌, ◌^◌, ◌<◌, ◌≤◌, Bool, List, [], length, map, Some, slice_get}
use Rattle.lid_design.specs.declared.Flat.{Flat}
use Rattle.lid_design.specs.Flat.{IsFlat}
use Rattle.lid_emit_cells.specs.declared.all.All.{All}
use Rattle.lid_emit_circuit.specs.Wires as circuit
use Rattle.lid_emit_circuit.specs.Plans.{CircuitPlan, ends}
use Rattle.lid_emit_circuit.specs.Network.{sink}
use Rattle.lid_emit_cells.specs.declared.outer.Outer.{Outer}
use Rattle.lid_emit_cells.specs.declared.shell.Shell.{Shell}
use Rattle.lid_emit_cells.specs.declared.wire.Wire.{Wire}
use Rattle.lid_emit_cells.specs.declared.actor.Fill.{Fill}
use Rattle.lid_emit_cells.specs.declared.actor.ActorStations.{ActorStations}
use Rattle.lid_emit_cells.specs.declared.station.Bit.{Bit}
use Rattle.lid_emit_cells.specs.declared.station.Station.{Station}
use Rattle.lid_emit_cells.specs.Shown.{wire_of}

-- station number s of a plan
pub record IsStationOf (q : CircuitPlan) (s : ℕ) (station : Station) : Type 0 where
  pub there : s < q.stations
  pub filler : q.filler s ≡ station.filler
  pub drainer : q.drainer s ≡ station.drainer
  pub capacity : q.capacity s ≡ station.capacity
  pub first : q.first s ≡ station.first
  pub width : q.width s ≡ length station.bits
  pub bits : (j : ℕ) (bit : Bit) → slice_get station.bits j ≡ Some bit → (q.begins s j ≡ bit.begins) × (q.put s j ≡ wire_of bit.put)

abbrev pub station_of : Fill → ℕ
station_of fill = fill.station

-- actor number v of a plan
pub record IsActorOf (q : CircuitPlan) (v : ℕ) (actor : ActorStations) : Type 0 where
  pub there : v < q.actors
  pub ins : q.ins v ≡ actor.ins
  pub outs : q.outs v ≡ map station_of actor.outs
  pub capacities : (i : ℕ) (fill : Fill) → slice_get actor.outs i ≡ Some fill → q.capacity fill.station ≡ fill.capacity

-- the wires of a list are those of numbers, one after the other
abbrev pub AreWires : (ℕ → circuit.Wire) → List Wire → Type 0
AreWires wire wires = (k : ℕ) (w : Wire) → slice_get wires k ≡ Some w → wire k ≡ wire_of w

-- shell number v of a plan: its flat part, and the wires of its nets
pub record IsPlanShell (q : CircuitPlan) (v : ℕ) (shell : Shell) : Type 0 where
  pub flat : q.flat v ≡ shell.flat
  pub here : AreWires (q.here v) shell.here
  pub after : AreWires (q.after v) shell.after
  pub skips : (k : ℕ) (b : Bool) → slice_get shell.skips k ≡ Some b → q.skips v k ≡ b

-- there is a wire for each net
pub record IsWhole (shell : Shell) : Type 0 where
  pub rules : IsFlat shell.flat
  pub here : length shell.here ≡ shell.flat.nets
  pub after : length shell.after ≡ shell.flat.nets
  pub skips : length shell.skips ≡ shell.flat.nets

-- the outside of a plan: its data inputs, its sink, the ends of source and sink, and what its data outputs show
pub record IsOuterOf (q : CircuitPlan) (outer : Outer) : Type 0 where
  pub inputs : q.inputs ≡ outer.inputs
  pub last : sink q ≡ outer.last
  pub last_ends : length (ends q (sink q)) ≡ outer.last_ends
  pub first_ends : length (ends q 0) ≡ outer.first_ends
  pub shows : q.shows ≡ map wire_of outer.shows

-- sizes that keep numbers small
abbrev pub IsSmallStation : Station → Type 0
IsSmallStation station = (station.capacity ≤ 16) × (length station.bits ≤ 31)

abbrev pub IsSmallActor : ActorStations → Type 0
IsSmallActor actor = length actor.ins + length actor.outs + 1 < 2 ^ 32

pub record AreAllSmall (all : All) : Type 0 where
  pub shows : length all.outer.shows < 2 ^ 32
  pub few_stations : length all.stations < 2 ^ 32
  pub stations : (s : ℕ) (station : Station) → slice_get all.stations s ≡ Some station → IsSmallStation station
  pub few_actors : length all.actors < 2 ^ 32
  pub actors : (v : ℕ) (actor : ActorStations) → slice_get all.actors v ≡ Some actor → IsSmallActor actor
  pub few_shells : length all.shells + 1 < 2 ^ 32
  pub shells : (i : ℕ) (shell : Shell) → slice_get all.shells i ≡ Some shell → IsWhole shell

-- nothing stands in a flat part
pub record IsBare (f : Flat) : Type 0 where
  pub latches : f.latches ≡ []
  pub covers : f.covers ≡ []

-- all that a plan has: its shells are numbered from 1 on, between a source and a sink that have no nets
pub record IsAllOf (q : CircuitPlan) (all : All) : Type 0 where
  pub outer : IsOuterOf q all.outer
  pub stations : q.stations ≡ length all.stations
  pub each_station : (s : ℕ) (station : Station) → slice_get all.stations s ≡ Some station → IsStationOf q s station
  pub actors : q.actors ≡ length all.actors
  pub each_actor : (v : ℕ) (actor : ActorStations) → slice_get all.actors v ≡ Some actor → IsActorOf q v actor
  pub nodes : q.nodes ≡ length all.shells + 2
  pub each_shell : (i : ℕ) (shell : Shell) → slice_get all.shells i ≡ Some shell → IsPlanShell q (i + 1) shell
  pub first_bare : IsBare (q.flat 0)
  pub last_bare : IsBare (q.flat (length all.shells + 1))
