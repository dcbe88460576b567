-- What stands at the parts of actors: the source has the input rows, a shell its pearl in the state of a row, and
-- the sink the rows that it has given and room for the others.
use Rattle.std.specs.Prelude.{◌≡◌, ℕ, ◌+◌, ◌<◌, ◌≤◌, Bool, List, length, take, Some, slice_get}
use Rattle.std.specs.List.{All}
use Rattle.lid_system.specs.declared.Node.TheVariants as node
use Rattle.lid_system.specs.declared.InBit.{InBit}
use Rattle.lid_shell_nodes.specs.Wiring.{SinkView, IsSourceOf, IsShellOf, IsSinkOf}
use Rattle.lid_walk_machine.specs.Setups.{output_rows}
use Rattle.lid_shell_laws.specs.Setups.{Setup}
use Rattle.lid_texts_packed.specs.Input.{input_of}
use Rattle.lid_shell.specs.declared.part.Given.{Given}
use Rattle.lid_shell.specs.declared.part.Input.{Input}
use Rattle.lid_shell.specs.declared.part.Role.{Role}
use Rattle.lid_shell.specs.declared.part.Role.TheVariants.{Source, Shell, Mover, Sink}

-- these are the columns of the sink, which is node v
abbrev pub AreColumnsAtSink : Setup → ℕ → List (List ℕ) → Type 0
AreColumnsAtSink m v columns = (ins : List InBit) × (slice_get m.system.nodes v ≡ Some (node.Sink columns ins))

-- the input rows of a setup, and room for one of them
pub record HasInput (m : Setup) (input : Input) : Type 0 where
  pub rows_are : input_of input.rows ≡ m.input
  pub room : length input.row.items ≡ input.node.width

-- the rows that a sink has given
abbrev pub rows_given : Given → List (List Bool)
rows_given rows = take rows.count rows.rows.items

-- the rows of a sink that has fired so often: as many strict output rows, and room for one of each firing to come
pub record HasGivenRows (m : Setup) (v fired : ℕ) (node : SinkView) (rows : Given) : Type 0 where
  pub columns_are : AreColumnsAtSink m v rows.columns
  pub given_are : rows_given rows ≡ output_rows m fired
  pub count_is : rows.count ≡ fired
  pub wide : All (λ row. length row ≡ length node.reads) rows.rows.items
  pub many : length rows.rows.items ≡ length m.input

-- the part of actor v that has fired so often, and whose pearl, where it is a shell, is in the state of row t
abbrev pub IsRole : Setup → ℕ → ℕ → ℕ → Role → Type 0
IsRole m v fired t (Source input) = (v ≡ 0) × IsSourceOf m.system input.node × HasInput m input
IsRole m v fired t (Shell node) = (0 < v) × (v + 1 < length m.system.nodes) × IsShellOf m.system m.table v t node
IsRole m v fired t Mover = length m.system.nodes ≤ v
IsRole m v fired t (Sink node rows) = IsSinkOf m.system v node × HasGivenRows m v fired node rows

-- a part is that of a sink
abbrev pub IsSinkRole : Role → Type 0
IsSinkRole (Sink node rows) = Unit {0}
IsSinkRole _ = ⊥
