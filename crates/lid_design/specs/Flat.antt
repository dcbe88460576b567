-- Flat parts, each a pearl with numbered nets: what drives each net, the rules that a part meets, and
-- what its bits of one row have to do with each other.
use Rattle.std.specs.Prelude.{◌≡◌, ℕ, zero, suc, ◌+◌, ◌<◌, ◌==◌, Bool, if◌then◌else◌, List, [], ◌∷◌, ◌++◌, length, map, flat_map, Some, slice_get, ⊤}
use Rattle.std.specs.List.{AllByRecursion}
use Rattle.lid_base.specs.Lists.{Among}
use Rattle.lid_cover.specs.Cover.{cover_value, IsCover}
use Rattle.lid_design.specs.declared.Flat.{Flat}
use Rattle.lid_design.specs.declared.FlatLatch.{FlatLatch}
use Rattle.lid_design.specs.declared.FlatCover.{FlatCover}
use Rattle.lid_design.specs.Network.{Driver, from_input, from_latch, from_cover, Table}
use Rattle.lid_design.specs.Walks.{IsDriven, IsDrivenOnce}
use Rattle.lid_design.specs.Feeds.{EdgesLead}

-- the inputs that are net k, each by its place, where the first of them has place j
abbrev pub inputs_at : ℕ → ℕ → List ℕ → List (Driver ℕ)
inputs_at k j [] = []
inputs_at k j (net ∷ nets) = (if net == k then from_input j ∷ [] else []) ++ inputs_at k (j + 1) nets

abbrev pub latch_at : ℕ → FlatLatch → List (Driver ℕ)
latch_at k latch = if latch.out == k then from_latch latch.init latch.input ∷ [] else []

abbrev pub cover_at : ℕ → FlatCover → List (Driver ℕ)
cover_at k c = if c.out == k then from_cover c.cover c.ins ∷ [] else []

-- what drives net k
unfoldable pub flat_drivers : Flat → ℕ → List (Driver ℕ)
flat_drivers f k = inputs_at k 0 f.ins ++ (flat_map (latch_at k) f.latches ++ flat_map (cover_at k) f.covers)

abbrev pub latch_out : FlatLatch → ℕ
latch_out latch = latch.out

abbrev pub latch_input : FlatLatch → ℕ
latch_input latch = latch.input

abbrev pub latch_init : FlatLatch → Bool
latch_init latch = latch.init

-- each net that a part names lies below the number of its nets
pub record IsNumbered (f : Flat) : Type 0 where
  pub ins : AllByRecursion (λ k. k < f.nets) f.ins
  pub outs : AllByRecursion (λ k. k < f.nets) f.outs
  pub latches : AllByRecursion (λ latch. (latch.input < f.nets) × (latch.out < f.nets)) f.latches
  pub covers : AllByRecursion (λ c. AllByRecursion (λ k. k < f.nets) c.ins × (c.out < f.nets)) f.covers

-- each cover reads known nets alone, and its output is known to those after it
abbrev pub ReadEarlier : List ℕ → List FlatCover → Type 0
ReadEarlier known [] = ⊤
ReadEarlier known (c ∷ covers) = AllByRecursion (λ k. Among k known) c.ins × ReadEarlier (c.out ∷ known) covers

-- a cover meets the rules of covers, and has as many inputs as nets are read
abbrev pub IsFlatCover : FlatCover → Type 0
IsFlatCover c = IsCover c.cover × (c.cover.inputs ≡ length c.ins)

-- the rules of flat parts. Each number below that of the nets is an input, the output of a latch or
-- that of a cover, and is so once; and no walk through covers, also none of no edges, leads from an
-- input to an output
pub record IsFlat (f : Flat) : Type 0 where
  pub below : IsNumbered f
  pub once : IsDrivenOnce (flat_drivers f)
  pub driven : (k : ℕ) → k < f.nets → IsDriven (flat_drivers f) k
  pub earlier : ReadEarlier (f.ins ++ map latch_out f.latches) f.covers
  pub apart : (n input output : ℕ) → Among input f.ins → Among output f.outs → ¬ EdgesLead (flat_drivers f) n input output
  pub covers : AllByRecursion IsFlatCover f.covers

-- the bits of one row meet covers: the output of each has its value
abbrev pub IsRow : List FlatCover → (ℕ → Bool) → Type 0
IsRow covers bit = AllByRecursion (λ c. bit c.out ≡ cover_value c.cover (map bit c.ins)) covers

-- the bits that the latches hold in a row: first those that they begin with, later those of their
-- inputs in the row before
abbrev pub state_at : Flat → Table ℕ → ℕ → List Bool
state_at f b zero = map latch_init f.latches
state_at f b (suc t) = map (b t) (map latch_input f.latches)

-- the bits of row t meet covers, latches and inputs
pub record MeetsRow (f : Flat) (rows : List (List Bool)) (b : Table ℕ) (t : ℕ) : Type 0 where
  pub covers : IsRow f.covers (b t)
  pub latches : map (b t) (map latch_out f.latches) ≡ state_at f b t
  pub inputs : (row : List Bool) → slice_get rows t ≡ Some row → length row ≡ length f.ins → map (b t) f.ins ≡ row
