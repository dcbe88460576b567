-- The stations of a plan, in order.
use Rattle.std.specs.Prelude.{◌≡◌, ℕ, ◌<◌, List, length, Some, slice_get}
use Rattle.lid_emit_circuit.specs.Plans.{CircuitPlan}
use Rattle.lid_emit_cells.specs.declared.station.Station.{Station}
use Rattle.lid_emit_cells.specs.Matches.{IsStationOf, IsSmallStation}

-- all stations of a plan
pub record AreStationsOf (q : CircuitPlan) (stations : List Station) : Type 0 where
  pub many : q.stations ≡ length stations
  pub each : (s : ℕ) (station : Station) → slice_get stations s ≡ Some station → IsStationOf q s station
  pub small : (s : ℕ) (station : Station) → slice_get stations s ≡ Some station → IsSmallStation station

-- stations that some of so many actors fill and drain
abbrev pub AreBetween : ℕ → List Station → Type 0
AreBetween actors stations = (s : ℕ) (station : Station) → slice_get stations s ≡ Some station → (station.filler < actors) × (station.drainer < actors)
