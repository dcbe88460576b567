-- What is made for one pearl: its shell, and the bits that its outputs begin with. These serve loops.
use Rattle.std.specs.Prelude.{◌≡◌, ℕ, ◌+◌, Bool, List, Some, slice_get}
use Rattle.lid_design.specs.declared.Design.{Design}
use Rattle.lid_design.specs.declared.Flat.{Flat}
use Rattle.lid_design.specs.Flat.{IsFlat}
use Rattle.lid_pearl.specs.Pearls.{View, Shows}
use Rattle.lid_system.specs.declared.System.{System}
use Rattle.lid_system.specs.declared.Node.TheVariants as node
use Rattle.lid_system.specs.declared.InBit.{InBit}
use Rattle.lid_check.specs.Flats.{IsFlatOf}
use Rattle.lid_emit_cells.specs.declared.shell.Shell.{Shell}
use Rattle.lid_emit_shells.specs.Filling.{shell_of}

-- the shell of the pearl at a node: it has the flat part of the pearl that is one before in number
pub record IsMadeShell (d : Design) (s : System) (lasts : List ℕ) (v : ℕ) (shell : Shell) : Type 0 where
  pub pearl : View
  pub ins : List InBit
  pub at : slice_get s.nodes v ≡ Some (node.Shell pearl ins)
  pub number : ℕ
  pub place : v ≡ number + 1
  pub flat : Flat
  pub rules : IsFlat flat
  pub part : IsFlatOf d number flat
  pub made : shell ≡ shell_of v flat lasts ins

-- the bits that the outputs of the pearl at a node begin with
pub record AreBegun (s : System) (v : ℕ) (bits : List Bool) : Type 0 where
  pub pearl : View
  pub ins : List InBit
  pub at : slice_get s.nodes v ≡ Some (node.Shell pearl ins)
  pub shown : Shows pearl bits
