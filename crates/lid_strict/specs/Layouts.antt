-- Networks laid out for running, in an order of their numbers.
use Rattle.std.specs.Prelude.{◌≡◌, ◌++◌, ◌<◌, ℕ, Bool, zero, suc, List, [], ◌∷◌, length, map, slice_index_or}
use Rattle.std.specs.List.{AllByRecursion, flat_map}
use Rattle.lid_base.specs.Lists.{Among}
use Rattle.lid_design.specs.declared.FlatLatch.{FlatLatch}
use Rattle.lid_design.specs.declared.FlatCover.{FlatCover}
use Rattle.lid_design.specs.Network.{Driver, from_input, from_latch, from_cover, from_connection, Table}
use Rattle.lid_design.specs.Flat.{latch_out, latch_init, ReadEarlier, IsRow}
use Rattle.lid_check_parts.specs.Inner.{latches_of}
use Rattle.lid_strict_engine.specs.Programs.{program_covers, IsProgram}
use Rattle.lid_strict_engine.specs.Rows.{bit_at, known_after}
use Rattle.lid_strict_widths.specs.declared.group.ByWidth.{ByWidth}
use Rattle.lid_strict_widths.specs.Groups.{IsByWidth}
use Rattle.lid_strict.specs.Networks.{driver_at, rows_at}
use Rattle.lid_strict.specs.Stems.{stem_covers, latch_stem}
use Rattle.lid_strict.specs.declared.layout.Layout.{Layout}
use Rattle.lid_strict.specs.declared.simulation.Runnable.{Runnable}

-- number k where it is an input, and the place of the input
abbrev pub input_nets : ℕ → Driver ℕ → List ℕ
input_nets k (from_input j) = k ∷ []
input_nets k (from_latch first input) = []
input_nets k (from_cover cover inputs) = []
input_nets k (from_connection other) = []

abbrev pub input_places : Driver ℕ → List ℕ
input_places (from_input j) = j ∷ []
input_places (from_latch first input) = []
input_places (from_cover cover inputs) = []
input_places (from_connection other) = []

-- what of each number of an order, one after the other
abbrev pub nets_in : List (Driver ℕ) → List ℕ → List ℕ
nets_in network order = flat_map (λ k. input_nets k (driver_at network k)) order

abbrev pub places_in : List (Driver ℕ) → List ℕ → List ℕ
places_in network order = flat_map (λ k. input_places (driver_at network k)) order

abbrev pub latches_in : List (Driver ℕ) → List ℕ → List FlatLatch
latches_in network order = flat_map (λ k. latches_of k (driver_at network k)) order

abbrev pub covers_in : List (Driver ℕ) → List ℕ → List ℕ → List FlatCover
covers_in network stems order = flat_map (λ k. stem_covers stems k (driver_at network k)) order

-- the layout of a network in an order, in which stems are read in place of all numbers
pub record IsLaidOut (network : List (Driver ℕ)) (stems order : List ℕ) (p : Layout) : Type 0 where
  pub ready : IsProgram p.program
  pub nets : p.program.nets ≡ length network
  pub covers : program_covers p.program ≡ covers_in network stems order
  pub ins : p.ins.items ≡ nets_in network order
  pub places : p.places.items ≡ places_in network order
  pub held : p.held.items ≡ map latch_out (latches_in network order)
  pub taken : p.taken.items ≡ map (latch_stem stems) (latches_in network order)
  pub first : p.first.items ≡ map latch_init (latches_in network order)

-- what is known in a row before covers are run
abbrev pub known_first : Layout → List ℕ
known_first p = p.ins.items ++ (p.held.items ++ [])

-- a number has its bit once the covers are run
abbrev pub IsSettled : Layout → ℕ → Type 0
IsSettled p k = Among k (known_after (known_first p) (program_covers p.program))

-- each cover reads what is known when it is run, and what latches read is known in the end
pub record IsRunnable (p : Layout) : Type 0 where
  pub ready : IsProgram p.program
  pub ins : AllByRecursion (λ k. k < p.program.nets) p.ins.items
  pub held : AllByRecursion (λ k. k < p.program.nets) p.held.items
  pub taken : AllByRecursion (λ k. k < p.program.nets) p.taken.items
  pub pairs : length p.places.items ≡ length p.ins.items
  pub latches : length p.taken.items ≡ length p.held.items
  pub begun : length p.first.items ≡ length p.held.items
  pub earlier : ReadEarlier (known_first p) (program_covers p.program)
  pub settled : AllByRecursion (IsSettled p) p.taken.items

-- what runs the program of a layout
pub record IsEngineOf (p : Layout) (x : ByWidth) : Type 0 where
  pub is : IsByWidth x
  pub nets : x.program.nets ≡ p.program.nets
  pub covers : program_covers x.program ≡ program_covers p.program

-- the bits that latches hold in a row: first those that they begin with, later those of their inputs in
-- the row before
abbrev pub held_bits : List Bool → List ℕ → Table ℕ → ℕ → List Bool
held_bits first taken b zero = first
held_bits first taken b (suc t) = map (b t) taken

-- the bits of a row, from the input row and the bits that latches hold in it
pub record FitsRow (p : Layout) (row state : List Bool) (bit : ℕ → Bool) : Type 0 where
  pub covers : IsRow (program_covers p.program) bit
  pub latches : map bit p.held.items ≡ state
  pub inputs : map bit p.ins.items ≡ map (bit_at row) p.places.items

-- a table whose rows are those of a run
abbrev pub FitsTable : Layout → List (List Bool) → Table ℕ → Type 0
FitsTable p rows b = (t : ℕ) → t < length rows → FitsRow p (slice_index_or rows t []) (held_bits p.first.items p.taken.items b t) (b t)

-- what latches hold and the rows so far are those of each table that fits
abbrev pub IsStrictRun : Layout → List ℕ → List (List Bool) → ℕ → List Bool → List (List Bool) → Type 0
IsStrictRun p outs rows t state out = (b : Table ℕ) → FitsTable p rows b → (state ≡ held_bits p.first.items p.taken.items b t) × (out ≡ rows_at outs b t)

-- the rows so far, which something has
pub record HasRun (p : Layout) (outs : List ℕ) (rows : List (List Bool)) (t : ℕ) (state : List Bool) (has : List (List Bool) → Type 0) : Type 0 where
  pub given : List (List Bool)
  pub run : IsStrictRun p outs rows t state given
  pub held : has given

-- something has rows that are those of each table that fits
pub record HasRows (p : Layout) (outs : List ℕ) (rows : List (List Bool)) (has : List (List Bool) → Type 0) : Type 0 where
  pub given : List (List Bool)
  pub each : (b : Table ℕ) → FitsTable p rows b → given ≡ rows_at outs b (length rows)
  pub held : has given

-- a table fits, and the rows that it gives are these
pub record Gives (ready : Runnable) (rows : List (List Bool)) (b : Table ℕ) (out : List (List Bool)) : Type 0 where
  pub fits : FitsTable ready.layout rows b
  pub same : rows_at ready.outs.items b (length rows) ≡ out
