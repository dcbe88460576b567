-- What an emitted design is seen to do.
use Rattle.std.specs.Prelude.{ℕ, Bool, List, [], length, map}
use Rattle.lid_design.specs.declared.Design.{Design}
use Rattle.lid_design.specs.Network.{Table}
use Rattle.lid_design.specs.Columns.{Column, column, root_inputs, IsStrictOutput}
use Rattle.lid_stations.specs.declared.placement.Placement.{Placement}
use Rattle.lid_stations.specs.Placements.{Links}
use Rattle.lid_emit_system.specs.Faces.{Face, TellsItsState, Delivers}
use Rattle.lid_emit_meaning.specs.Ports.{valid_name, stop_name}

-- what a table of an emitted design shows, where the data outputs have these names
abbrev pub face_of : List (List ℕ) → Table Column → Face
face_of outputs b = record {
  stop = λ k. b k (column [] stop_name);
  valid = λ k. b k (column [] valid_name);
  row = λ k. map (λ net. b k (column [] net)) outputs;
}

-- in each cycle it tells its state, and the rows that it delivers are the strict outputs of the design for those that
-- it accepts
pub record RunsAs (d : Design) (l : Links) (p : Placement) (rows : List (List Bool)) (face : Face) : Type 0 where
  pub tells : TellsItsState l p (length (root_inputs d)) rows face
  pub delivers : Delivers l p (length (root_inputs d)) rows face (IsStrictOutput d)
