-- The run of a wrapped system: the rows that are offered, and those that were accepted and delivered.
use Rattle.std.specs.Prelude.{ℕ, zero, suc, ◌+◌, ◌==◌, nat_lt, Bool, false, not, ◌&&◌, ◌||◌, if◌then◌else◌, List, [], ◌∷◌, ◌++◌, slice_index_or}
use Rattle.lid_base.specs.Each.{from_each}
use Rattle.lid_graph.specs.Firings.{Counts, Hold}

-- a bit of an input row
abbrev pub row_bit : List (List Bool) → ℕ → ℕ → Bool
row_bit rows k j = slice_index_or (slice_index_or rows k []) j false

-- after so many data inputs a row says whether one is offered, and whether one is blocked. The source is held where none is
-- offered, and the sink where it is blocked
abbrev pub held_by : ℕ → ℕ → List (List Bool) → Hold
held_by inputs last rows k v = ((v == 0) && not (row_bit rows k inputs)) || ((v == last) && row_bit rows k (inputs + 1))

-- whether a count rises in cycle k
abbrev pub counts_up : (ℕ → Counts) → ℕ → ℕ → Bool
counts_up counts v k = nat_lt (counts k v) (counts (suc k) v)

-- the rows of those of the first cycles that are picked
abbrev pub rows_where : (ℕ → Bool) → (ℕ → List Bool) → ℕ → List (List Bool)
rows_where picked row zero = []
rows_where picked row (suc k) = rows_where picked row k ++ (if picked k then row k ∷ [] else [])

-- the data bits of an input row
abbrev pub data_row : ℕ → List (List Bool) → ℕ → List Bool
data_row inputs rows k = from_each (row_bit rows k) 0 inputs
