-- Pearls of a design, and the numbers of the columns of their inputs and outputs.
use Rattle.std.specs.Prelude.{◌≡◌, ◌<◌, ◌≤◌, ◌+◌, ℕ, List, length, map, slice_get, Some}
use Rattle.std.specs.List.{AllByRecursion, range_with_len}
use Rattle.lid_design.specs.declared.Design.{Design}
use Rattle.lid_design.specs.declared.Model.{Model}
use Rattle.lid_design.specs.Columns.{Column, column, model_at, data_inputs, drivers}
use Rattle.lid_design.specs.Flat.{IsFlat, latch_init}
use Rattle.lid_design.specs.Loops.{pearls}
use Rattle.lid_check_elab.specs.Elaborations.{column_at}
use Rattle.lid_check_parts.specs.declared.part.PearlPart.{PearlPart as Numbers}
use Rattle.lid_check_parts.specs.Standing.{StandsForAll}
use Rattle.lid_pearl.specs.Pearls.{View}
use Rattle.lid_net.specs.declared.ports.ShellPorts.{ShellPorts}

-- the ports of a pearl, by its number, are columns of these numbers
pub record AreShellPorts (d : Design) (count i : ℕ) (ports : ShellPorts) : Type 0 where
  pub path : List ℕ
  pub here : slice_get (pearls d) i ≡ Some path
  pub model : Model
  pub body : model_at d path ≡ Some model
  pub ins : map (column_at d) ports.ins ≡ map (column path) (data_inputs d model)
  pub outs : map (column_at d) ports.outs ≡ map (column path) model.outputs
  pub ins_below : AllByRecursion (λ k. k < count) ports.ins
  pub outs_below : AllByRecursion (λ k. k < count) ports.outs

-- the ports of each pearl, in order; there are no more pearls than the limit
pub record ArePortsOf (d : Design) (count : ℕ) (ports : List ShellPorts) : Type 0 where
  pub long : length ports ≡ length (pearls d)
  pub few : length (pearls d) ≤ 4096
  pub each : (i : ℕ) (shell : ShellPorts) → slice_get ports i ≡ Some shell → AreShellPorts d count i shell

-- the ports of a pearl whose columns have these numbers
pub record AreNumberedPorts (numbers : Numbers) (ports : ShellPorts) : Type 0 where
  pub ins : ports.ins ≡ range_with_len numbers.start numbers.inputs
  pub outs : ports.outs ≡ range_with_len (numbers.start + numbers.inputs) numbers.outputs

-- a pearl of a design, by its number: it begins, and its nets stand for columns
pub record IsPearlOf (d : Design) (i : ℕ) (pearl : View) : Type 0 where
  pub path : List ℕ
  pub here : slice_get (pearls d) i ≡ Some path
  pub model : Model
  pub body : model_at d path ≡ Some model
  pub rules : IsFlat pearl.flat
  pub begins : pearl.state ≡ map latch_init pearl.flat.latches
  pub col : ℕ → Column
  pub inputs : map col pearl.flat.ins ≡ map (column path) (data_inputs d model)
  pub outputs : map col pearl.flat.outs ≡ map (column path) model.outputs
  pub each : StandsForAll (drivers d) col pearl.flat
