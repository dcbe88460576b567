-- Lists that stand one after another in one list, by where each starts.
use Rattle.std.specs.Prelude.{ℕ, ◌+◌, ◌<◌, ◌≤◌, List, length, slice_index_or, slice_range}
use Rattle.lid_base.specs.Each.{from_each}

-- where the list at a place ends: where the next one starts, and the last at the end of all
abbrev pub end_at : List ℕ → List ℕ → ℕ → ℕ
end_at all starts k = slice_index_or starts (k + 1) (length all)

-- the list at a place
abbrev pub list_at : List ℕ → List ℕ → ℕ → List ℕ
list_at all starts k = slice_range all (slice_index_or starts k 0) (end_at all starts k)

-- the lists in order
abbrev pub lists_of : List ℕ → List ℕ → List (List ℕ)
lists_of all starts = from_each (list_at all starts) 0 (length starts)

-- each list starts no later than it ends, and within all
pub record AreStarts (all starts : List ℕ) : Type 0 where
  pub rising : (k : ℕ) → k < length starts → slice_index_or starts k 0 ≤ end_at all starts k
  pub within : (k : ℕ) → k < length starts → slice_index_or starts k 0 ≤ length all
