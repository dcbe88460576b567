-- Which nets of shells have the wires of others.
use Rattle.std.specs.Prelude.{◌≡◌, ℕ, List, Some, slice_get}
use Rattle.lid_base.specs.Lists.{Among}
use Rattle.lid_design.specs.declared.FlatCover.{FlatCover}
use Rattle.lid_pearl.specs.Pearls.{View}
use Rattle.lid_system.specs.declared.System.{System}
use Rattle.lid_system.specs.declared.Node.TheVariants.{Shell}
use Rattle.lid_system.specs.declared.InBit.{InBit}
use Rattle.lid_check_rules.specs.Buffers.{passes_on}
use Rattle.lid_emit_system.specs.Nets.{NetWires}

-- in each shell the net of a cover is skipped where the cover passes on its one input, and only there
abbrev pub SkipBuffers : System → NetWires → Type 0
SkipBuffers s n =
    (v : ℕ) (pearl : View) (ins : List InBit) → slice_get s.nodes v ≡ Some (Shell pearl ins)
    → (c : FlatCover) → Among c (n.flat v).covers → n.skips v c.out ≡ passes_on c.cover
