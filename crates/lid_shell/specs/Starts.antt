-- Serves the bodies: desks and sinks before a run has begun.
use Rattle.std.specs.Prelude.{◌≡◌, ℕ, ◌-◌, List, length, Some, slice_get}
use Rattle.std.specs.List.{All}
use Rattle.lid_system.specs.declared.System.{System}
use Rattle.lid_system.specs.declared.Node.TheVariants as node
use Rattle.lid_system.specs.declared.InBit.{InBit}
use Rattle.lid_shell.specs.declared.building.Lane.{Lane}
use Rattle.lid_shell.specs.declared.desk.Desk.{Desk}
use Rattle.lid_shell.specs.declared.part.Given.{Given}

-- these stations, and room for a token of each
pub record IsLane (stations : List ℕ) (l : Lane) : Type 0 where
  pub stations_are : l.stations.items ≡ stations
  pub many : length l.tokens.items ≡ length stations

-- the desk of an actor that has not fired
pub record IsNewDesk (ins outs : List ℕ) (cap : ℕ) (d : Desk) : Type 0 where
  pub drains : d.ins.items ≡ ins
  pub fills : d.outs.items ≡ outs
  pub taken : length d.taken.items ≡ length ins
  pub tokens : length d.tokens.items ≡ length outs
  pub capped : d.cap ≡ cap
  pub none : d.fired ≡ 0
  pub rests : d.position ≡ 0

-- these are the columns of the sink of a system, its last node
abbrev pub AreSinkColumns : System → List (List ℕ) → Type 0
AreSinkColumns s columns = (ins : List InBit) × (slice_get s.nodes (length s.nodes - 1) ≡ Some (node.Sink columns ins))

-- the rows of a sink that has given none
pub record IsNewGiven (s : System) (width rows : ℕ) (g : Given) : Type 0 where
  pub columns_are : AreSinkColumns s g.columns
  pub none : g.count ≡ 0
  pub wide : All (λ row. length row ≡ width) g.rows.items
  pub many : length g.rows.items ≡ rows
