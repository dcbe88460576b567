-- The system of a design: whose nets stand for which columns, and where inputs are led back to.
use Rattle.std.specs.Prelude.{◌≡◌, ◌+◌, ℕ, zero, suc, List, [], length, map, Some, slice_get, slice_index_or}
use Rattle.lid_base.specs.Lists.{Among}
use Rattle.lid_cover.specs.declared.Cover.{Cover}
use Rattle.lid_cover.specs.Cover.{cover_value}
use Rattle.lid_design.specs.declared.Design.{Design}
use Rattle.lid_design.specs.declared.Model.{Model}
use Rattle.lid_design.specs.Network.{Driver, from_cover, Table}
use Rattle.lid_design.specs.Columns.{Column, column, model_at, data_inputs, drivers, root_inputs, root_outputs}
use Rattle.lid_design.specs.Loops.{pearls}
use Rattle.lid_pearl.specs.Pearls.{View}
use Rattle.lid_system.specs.declared.System.{System}
use Rattle.lid_system.specs.declared.Node.TheVariants.{Source, Shell, Sink}
use Rattle.lid_system.specs.declared.InBit.{InBit}
use Rattle.lid_system.specs.declared.InBit.TheVariants.{Const, Port}
use Rattle.lid_system.specs.Systems.{Point, source_port, shell_net}
use Rattle.lid_system.specs.Tables.{carried_at}
use Rattle.lid_check_parts.specs.Standing.{StandsForAll}
use Rattle.lid_net_law.specs.Ports.{IsNoPort, IsPassedOn}

-- the column of a point, where net k of node i stands for `columns i k`: a port of the source stands for
-- a data input of the root
abbrev pub column_of : Design → (ℕ → ℕ → Column) → Point → Column
column_of d columns (source_port j) = column [] (slice_index_or (root_inputs d) j [])
column_of d columns (shell_net i k) = columns i k

-- a table of columns, seen at the points of a system
abbrev pub seen : Design → (ℕ → ℕ → Column) → Table Column → Table Point
seen d columns b t p = b t (column_of d columns p)

-- so many steps back a column is a constant of this bit, or the port that has this bit of a channel; no port
-- stands on the way before it
abbrev pub LeadsBack : Design → System → (ℕ → ℕ → Column) → ℕ → Column → InBit → Type 0
LeadsBack d s columns zero c (Const bit) =
    IsNoPort d c
    × (cover : Cover)
    × Among {A = Driver Column} (from_cover cover []) (drivers d c)
    × (cover_value cover [] ≡ bit)
LeadsBack d s columns zero c (Port chan bit) = c ≡ column_of d columns (carried_at s chan bit)
LeadsBack d s columns (suc n) c x = IsNoPort d c × (a : Column) × IsPassedOn d a c × LeadsBack d s columns n a x

abbrev pub IsLed : Design → System → (ℕ → ℕ → Column) → Column → InBit → Type 0
IsLed d s columns c x = (n : ℕ) × LeadsBack d s columns n c x

-- each column is led back to what the input of its place reads
abbrev pub AreLed : Design → System → (ℕ → ℕ → Column) → List Column → List InBit → Type 0
AreLed d s columns cs ins = (j : ℕ) (c : Column) (x : InBit) → slice_get cs j ≡ Some c → slice_get ins j ≡ Some x → IsLed d s columns c x

-- node i is the shell of a pearl of the design, in order from node 1 on: the nets of its flat part stand
-- for columns, its inputs and outputs for those of the pearl's model, and its inputs are led back
pub record IsPearlShell (d : Design) (s : System) (columns : ℕ → ℕ → Column) (i : ℕ) (pearl : View) (ins : List InBit) : Type 0 where
  pub number : ℕ
  pub place : i ≡ number + 1
  pub path : List ℕ
  pub here : slice_get (pearls d) number ≡ Some path
  pub model : Model
  pub body : model_at d path ≡ Some model
  pub inputs : map (columns i) pearl.flat.ins ≡ map (column path) (data_inputs d model)
  pub outputs : map (columns i) pearl.flat.outs ≡ map (column path) model.outputs
  pub each : StandsForAll (drivers d) (columns i) pearl.flat
  pub led : AreLed d s columns (map (columns i) pearl.flat.ins) ins

-- a system is that of a design: one shell for each pearl, between the root's data inputs and outputs
pub record IsSystemOf (d : Design) (s : System) : Type 0 where
  pub nodes : length s.nodes ≡ length (pearls d) + 2
  pub columns : ℕ → ℕ → Column
  pub source : (i : ℕ) (names : List (List ℕ)) → slice_get s.nodes i ≡ Some (Source names) → names ≡ root_inputs d
  pub shells : (i : ℕ) (pearl : View) (ins : List InBit) → slice_get s.nodes i ≡ Some (Shell pearl ins) → IsPearlShell d s columns i pearl ins
  pub sink : (i : ℕ) (names : List (List ℕ)) (ins : List InBit) → slice_get s.nodes i ≡ Some (Sink names ins) → (names ≡ root_outputs d) × AreLed d s columns (map (column []) (root_outputs d)) ins
