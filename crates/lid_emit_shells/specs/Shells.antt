-- The wires of the nets of all shells of a system, as a plan reads them.
use Rattle.std.specs.Prelude.{◌≡◌, ℕ, zero, suc, ◌+◌, Bool, false, List, [], length, slice_get, slice_index_or, Some}
use Rattle.std.specs.Option.{option_map_or}
use Rattle.lid_design.specs.declared.Design.{Design}
use Rattle.lid_system.specs.declared.System.{System}
use Rattle.lid_stations.specs.declared.placement.Placement.{Placement}
use Rattle.lid_emit_circuit.specs.Wires as circuit
use Rattle.lid_emit_system.specs.Nets.{NetWires, AreNetWires}
use Rattle.lid_emit_system.specs.Wrapping.{no_flat}
use Rattle.lid_emit_laws.specs.Flats.{AreFlatsOf}
use Rattle.lid_emit_laws.specs.Passing.{SkipBuffers}
use Rattle.lid_emit_cells.specs.declared.wire.Wire.{Wire}
use Rattle.lid_emit_cells.specs.declared.wire.Wire.TheVariants.{Offer}
use Rattle.lid_emit_cells.specs.declared.shell.Shell.{Shell}
use Rattle.lid_emit_cells.specs.Shown.{wire_of}
use Rattle.lid_emit_cells.specs.Matches.{IsWhole}
use Rattle.lid_emit_shells.specs.declared.shells.Shells.{Shells}

-- shell number v, where shells are numbered from 1 on
abbrev pub shell_before : {A : Type 0} → List Shell → (Shell → A) → A → ℕ → A
shell_before shells of none zero = none
shell_before shells of none (suc i) = option_map_or of (slice_get shells i) none

-- the wire at a place of a list
abbrev pub wire_in : List Wire → ℕ → circuit.Wire
wire_in wires k = wire_of (slice_index_or wires k Offer)

abbrev pub begins_before : List (List Bool) → ℕ → List Bool
begins_before begins zero = []
begins_before begins (suc i) = slice_index_or begins i []

-- what a plan takes from the shells
abbrev pub nets_of : Shells → NetWires
nets_of all = record {
  flat = shell_before all.shells (λ shell. shell.flat) no_flat;
  begins = begins_before all.begins;
  here = λ v k. shell_before all.shells (λ shell. wire_in shell.here k) circuit.offer v;
  after = λ v k. shell_before all.shells (λ shell. wire_in shell.after k) circuit.offer v;
  skips = λ v k. shell_before all.shells (λ shell. slice_index_or shell.skips k false) false v;
}

-- the shells of a design and its system: one between source and sink for each pearl, with a wire for each net
pub record AreShells (d : Design) (s : System) (p : Placement) (all : Shells) : Type 0 where
  pub count : length s.nodes ≡ length all.shells + 2
  pub begins : length all.begins ≡ length all.shells
  pub whole : (i : ℕ) (shell : Shell) → slice_get all.shells i ≡ Some shell → IsWhole shell
  pub nets : AreNetWires s p (nets_of all)
  pub flats : AreFlatsOf d s (nets_of all)
  pub skipped : SkipBuffers s (nets_of all)
