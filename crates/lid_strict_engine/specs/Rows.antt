-- Bits of nets that are right in one row.
use Rattle.std.specs.Prelude.{◌≡◌, ℕ, Bool, false, List, [], ◌∷◌, slice_index_or}
use Rattle.lid_base.specs.Lists.{Among}
use Rattle.lid_design.specs.declared.FlatCover.{FlatCover}

abbrev pub bit_at : List Bool → ℕ → Bool
bit_at bits k = slice_index_or bits k false

-- the bits are right at some nets
abbrev pub AreRightAt : (ℕ → Bool) → List ℕ → List Bool → Type 0
AreRightAt f nets bits = (k : ℕ) → Among k nets → bit_at bits k ≡ f k

-- the nets that are known once covers are run, where some are known before
abbrev pub known_after : List ℕ → List FlatCover → List ℕ
known_after known [] = known
known_after known (c ∷ covers) = known_after (c.out ∷ known) covers
