-- Stems: a connection has the stem of the number that it connects to, a buffer that of the number that it reads, and
-- all else is its own stem.
use Rattle.std.specs.Prelude.{◌≡◌, ℕ, if◌then◌else◌, List, [], ◌∷◌, map, slice_index_or}
use Rattle.lid_base.specs.Lists.{Among}
use Rattle.lid_design.specs.declared.Design.{Design}
use Rattle.lid_design.specs.declared.FlatLatch.{FlatLatch}
use Rattle.lid_design.specs.declared.FlatCover.{FlatCover}
use Rattle.lid_design.specs.Network.{Driver, from_input, from_latch, from_cover, from_connection}
use Rattle.lid_check_rules.specs.Buffers.{passes_on}
use Rattle.lid_check_elab.specs.declared.driver.ColumnDriver.{ColumnDriver}
use Rattle.lid_check_elab.specs.Elaborations.{shown_driver}
use Rattle.lid_strict.specs.Networks.{driver_at}

-- a driver, where a buffer is a connection to what it reads
abbrev pub unbuffered : Driver ℕ → Driver ℕ
unbuffered (from_input j) = from_input j
unbuffered (from_latch first input) = from_latch first input
unbuffered (from_cover cover inputs) = if passes_on cover then from_connection (slice_index_or inputs 0 0) else from_cover cover inputs
unbuffered (from_connection other) = from_connection other

-- the driver of a column of a design so
abbrev pub unbuffered_driver : Design → ColumnDriver → Driver ℕ
unbuffered_driver d driver = unbuffered (shown_driver d driver)

-- the stem of a number
abbrev pub stem_at : List ℕ → ℕ → ℕ
stem_at stems k = slice_index_or stems k 0

-- the stem of number k by its driver, unbuffered
abbrev pub stem_by : List ℕ → ℕ → Driver ℕ → ℕ
stem_by stems k (from_input j) = k
stem_by stems k (from_latch first input) = k
stem_by stems k (from_cover cover inputs) = k
stem_by stems k (from_connection other) = stem_at stems other

-- each number of an order has its stem
abbrev pub AreStems : List (Driver ℕ) → List ℕ → List ℕ → Type 0
AreStems network order stems = (k : ℕ) → Among k order → stem_at stems k ≡ stem_by stems k (driver_at network k)

-- the cover that gives number k its bit, which reads stems; there is none where a connection does
abbrev pub stem_covers : List ℕ → ℕ → Driver ℕ → List FlatCover
stem_covers stems k (from_input j) = []
stem_covers stems k (from_latch first input) = []
stem_covers stems k (from_cover cover inputs) = record { ins = map (stem_at stems) inputs; out = k; cover = cover } ∷ []
stem_covers stems k (from_connection other) = []

-- the stem of what a latch reads
abbrev pub latch_stem : List ℕ → FlatLatch → ℕ
latch_stem stems latch = stem_at stems latch.input
