-- When covers may be run in another order, and what a test of an order goes by.
use Rattle.std.specs.Prelude.{◌≡◌, ◌≤◌, ◌<◌, ℕ, Bool, false, List, [], length, map, Some, slice_get, get_or}
use Rattle.std.specs.List.{AllByRecursion}
use Rattle.lid_base.specs.Lists.{Among}
use Rattle.lid_design.specs.declared.FlatCover.{FlatCover}
use Rattle.lid_design.specs.Flat.{IsRow, ReadEarlier}
use Rattle.lid_strict_engine.specs.declared.program.ProgramStep.{ProgramStep}
use Rattle.lid_strict_engine.specs.Rows.{known_after}
use Rattle.lid_strict_widths.specs.Steps.{own_reads}

-- where covers may be run, others may be run too, and tell all nets that they tell
pub record StandIn (covers others : List FlatCover) (f : ℕ → Bool) (known : List ℕ) : Type 0 where
  pub row : IsRow others f
  pub earlier : ReadEarlier known others
  pub all : (k : ℕ) → Among k (known_after known covers) → Among k (known_after known others)

abbrev pub ServeFor : List FlatCover → List FlatCover → Type 0
ServeFor covers others = (f : ℕ → Bool) (known : List ℕ) → IsRow covers f → ReadEarlier known covers → StandIn covers others f known

-- what stands at a place without a cover
abbrev pub no_flat_cover : FlatCover
no_flat_cover = record { ins = []; out = 0; cover = record { inputs = 0; on = false; cubes = [] } }

-- the covers at some places
abbrev pub covers_at : List FlatCover → List ℕ → List FlatCover
covers_at covers places = map (λ k. get_or covers k no_flat_cover) places

-- the places of covers that may be run, in this order, in place of all
pub record IsRunOrder (covers : List FlatCover) (order : List ℕ) : Type 0 where
  pub within : AllByRecursion (λ k. k < length covers) order
  pub serves : ServeFor covers (covers_at covers order)

-- for each net a place after all steps that write it, and 0 where none does
pub record AreLastWrites (steps : List ProgramStep) (last : List ℕ) : Type 0 where
  pub past : (j : ℕ) (s : ProgramStep) → slice_get steps j ≡ Some s → j < get_or last s.out 0
  pub some : (k : ℕ) → 0 < get_or last k 0 → (j : ℕ) × (s : ProgramStep) × (slice_get steps j ≡ Some s) × (s.out ≡ k)

-- no step reads what it writes or a later one
abbrev pub ReadsPast : List ℕ → List ProgramStep → List ℕ → Type 0
ReadsPast reads steps last = (j : ℕ) (s : ProgramStep) → slice_get steps j ≡ Some s → AllByRecursion (λ k. get_or last k 0 ≤ j) (own_reads reads s)

-- what each of some steps writes is written
abbrev pub WritesAll : List ProgramStep → List ℕ → Type 0
WritesAll steps last = AllByRecursion (λ s. 0 < get_or last s.out 0) steps
