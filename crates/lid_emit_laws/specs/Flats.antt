-- Flat parts of the pearls of a design in the place of those of its system, and the names of ports.
use Rattle.std.specs.Prelude.{◌≡◌, ℕ, ◌+◌, List, length, map, Some, slice_get}
use Rattle.lid_design.specs.declared.Design.{Design}
use Rattle.lid_design.specs.Columns.{root_inputs, root_outputs}
use Rattle.lid_base.specs.Each.{from_each}
use Rattle.lid_pearl.specs.Pearls.{View}
use Rattle.lid_system.specs.declared.System.{System}
use Rattle.lid_system.specs.declared.Node.TheVariants.{Shell}
use Rattle.lid_system.specs.declared.InBit.{InBit}
use Rattle.lid_check.specs.Flats.{IsFlatOf}
use Rattle.lid_emit_circuit.specs.Wires.{Wire, entry, offer, block, shown, valid, stop}
use Rattle.lid_emit_system.specs.Nets.{NetWires}
use Rattle.lid_emit_meaning.specs.Ports.{offer_name, block_name, valid_name, stop_name}

-- each shell has the flat part of its pearl, which is the one before in number
abbrev pub AreFlatsOf : Design → System → NetWires → Type 0
AreFlatsOf d s n =
    (v : ℕ) (pearl : View) (ins : List InBit) → slice_get s.nodes v ≡ Some (Shell pearl ins)
    → (number : ℕ) × (v ≡ number + 1) × IsFlatOf d number (n.flat v)

-- the ports have the names of the root's ports, and those of the environment
pub record ArePortNames (d : Design) (name : Wire → List ℕ) : Type 0 where
  pub inputs : map name (from_each entry 0 (length (root_inputs d))) ≡ root_inputs d
  pub offers : name offer ≡ offer_name
  pub blocks : name block ≡ block_name
  pub outputs : map name (from_each shown 0 (length (root_outputs d))) ≡ root_outputs d
  pub valids : name valid ≡ valid_name
  pub stops : name stop ≡ stop_name
