-- Synchronous networks: what drives each column, and the tables of bits that meet all drivers.
use Rattle.std.specs.Prelude.{◌≡◌, ℕ, zero, suc, ◌<◌, Bool, false, List, [], length, map, slice_index_or}
use Rattle.std.specs.List.{AllByRecursion}
use Rattle.lid_cover.specs.declared.Cover.{Cover}
use Rattle.lid_cover.specs.Cover.{cover_value}

-- what gives a column its bit
pub data Driver (C : Type 0) : Type 0 where
  from_input : ℕ → Driver C  -- an input of the root, by its place
  from_latch : Bool → C → Driver C  -- a latch: the bit that it begins with, and its input
  from_cover : Cover → List C → Driver C  -- a cover, and its inputs in order
  from_connection : C → Driver C  -- the other side of a binding

-- a bit for each row and each column
abbrev pub Table : Type 0 → Type 0
Table C = ℕ → C → Bool

-- a latch has its first bit in the first row, and later the bit of its input in the row before
abbrev pub latch_bit : {C : Type 0} → Table C → Bool → C → ℕ → Bool
latch_bit b first input zero = first
latch_bit b first input (suc t) = b t input

-- the bit that a driver gives in a row
abbrev pub bit_of : {C : Type 0} → List (List Bool) → Table C → ℕ → Driver C → Bool
bit_of rows b t (from_input j) = slice_index_or (slice_index_or rows t []) j false
bit_of rows b t (from_latch first input) = latch_bit b first input t
bit_of rows b t (from_cover cover inputs) = cover_value cover (map (b t) inputs)
bit_of rows b t (from_connection c) = b t c

-- a table is strict for the input rows when, in each row, each column has the bit that each of its
-- drivers gives; nothing is said of other rows
abbrev pub IsStrict : {C : Type 0} → (C → List (Driver C)) → List (List Bool) → Table C → Type 0
IsStrict {C} drivers rows b =
    (t : ℕ) (c : C) → t < length rows → AllByRecursion (λ s. b t c ≡ bit_of rows b t s) (drivers c)
