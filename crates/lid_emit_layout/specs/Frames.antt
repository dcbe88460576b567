-- All parts of a plan but its shells.
use Rattle.std.specs.Prelude.{◌<◌, ◌^◌, length}
use Rattle.lid_emit_circuit.specs.Plans.{CircuitPlan}
use Rattle.lid_emit_cells.specs.Matches.{IsOuterOf}
use Rattle.lid_emit_layout.specs.declared.layout.Frame.{Frame}
use Rattle.lid_emit_layout.specs.Stations.{AreStationsOf}
use Rattle.lid_emit_layout.specs.Actors.{AreActorsOf}

pub record IsFrame (q : CircuitPlan) (frame : Frame) : Type 0 where
  pub outer : IsOuterOf q frame.outer
  pub shows : length frame.outer.shows < 2 ^ 32
  pub stations : AreStationsOf q frame.stations
  pub actors : AreActorsOf q frame.actors
