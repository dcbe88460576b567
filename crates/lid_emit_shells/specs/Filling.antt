-- The lists of a shell's wires, filled net by net: these serve loops.
use Rattle.std.specs.Prelude.{ℕ, ◌<◌, Bool, false, if◌then◌else◌, List, [], ◌∷◌, map, replicate, slice_index_or, slice_set}
use Rattle.std.specs.List.{AllByRecursion}
use Rattle.lid_design.specs.declared.Flat.{Flat}
use Rattle.lid_design.specs.declared.FlatLatch.{FlatLatch}
use Rattle.lid_design.specs.declared.FlatCover.{FlatCover}
use Rattle.lid_base.specs.Each.{from_each}
use Rattle.lid_design.specs.Flat.{latch_out}
use Rattle.lid_check_rules.specs.Buffers.{passes_on}
use Rattle.lid_emit_cells.specs.declared.wire.Wire.{Wire}
use Rattle.lid_emit_cells.specs.declared.wire.Wire.TheVariants.{Offer, Now, Later}
use Rattle.lid_emit_cells.specs.declared.shell.Shell.{Shell}
use Rattle.lid_system.specs.declared.InBit.{InBit}
use Rattle.lid_emit_shells.specs.Reading.{wire_by}

-- numbers of nets, where there are so many
abbrev pub AreNetsWithin : ℕ → List ℕ → Type 0
AreNetsWithin nets ks = AllByRecursion (λ k. k < nets) ks

-- the nets of a cover
abbrev pub IsCoverWithin : ℕ → FlatCover → Type 0
IsCoverWithin nets c = AreNetsWithin nets c.ins × (c.out < nets)

-- values are written at places, one after the other
abbrev pub overwritten : {A : Type 0} → List ℕ → List A → List A → List A
overwritten [] values list = list
overwritten (k ∷ ks) [] list = list
overwritten (k ∷ ks) (x ∷ xs) list = overwritten ks xs (slice_set list k x)

-- the net of a cover that passes its input on has the wire of the net that it reads
abbrev pub passed_by : FlatCover → List Wire → List Wire
passed_by c wires = if passes_on c.cover then slice_set wires c.out (slice_index_or wires (slice_index_or c.ins 0 0) Offer) else wires

abbrev pub passed : List FlatCover → List Wire → List Wire
passed [] wires = wires
passed (c ∷ cs) wires = passed cs (passed_by c wires)

abbrev pub cover_out : FlatCover → ℕ
cover_out c = c.out

abbrev pub is_passing : FlatCover → Bool
is_passing c = passes_on c.cover

-- what a latch reads
abbrev pub wire_read : List Wire → FlatLatch → Wire
wire_read wires latch = slice_index_or wires latch.input Offer

-- the wires of the nets of shell v, whose inputs have these
abbrev pub here_of : ℕ → Flat → List Wire → List Wire
here_of v f reads = passed f.covers (overwritten f.ins reads (from_each (Now v) 0 f.nets))

-- and after a firing
abbrev pub after_of : ℕ → Flat → List Wire → List Wire → List Wire
after_of v f reads here =
    passed f.covers (overwritten (map latch_out f.latches) (map (wire_read here) f.latches) (overwritten f.ins reads (from_each (Later v) 0 f.nets)))

-- whether nets have the wires of others
abbrev pub skips_of : Flat → List Bool
skips_of f = overwritten (map cover_out f.covers) (map is_passing f.covers) (replicate f.nets false)

-- shell v of a flat part, whose inputs read these, by the last stations of channels
abbrev pub shell_of : ℕ → Flat → List ℕ → List InBit → Shell
shell_of v f lasts ins = record {
  flat = f;
  here = here_of v f (map (wire_by lasts) ins);
  after = after_of v f (map (wire_by lasts) ins) (here_of v f (map (wire_by lasts) ins));
  skips = skips_of f;
}
