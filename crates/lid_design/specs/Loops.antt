-- Closed walks of the elaborated graph, pearls, and walks through a pearl.
use Rattle.std.specs.Prelude.{◌≡◌, ℕ, zero, suc, ◌==◌, if◌then◌else◌, List, [], ◌∷◌, ◌++◌, length, map}
use Rattle.std.specs.List.{range_with_len}
use Rattle.lid_design.specs.declared.Design.{Design}
use Rattle.lid_design.specs.Columns.{Column, column, drivers}
use Rattle.lid_design.specs.Feeds.{Feeds, EdgesLead}
use Rattle.lid_design.specs.Models.{insts_of}

-- a column of the elaborated graph lies on a closed walk. An edge leads to each column from those
-- that its driver reads in the same row
abbrev pub IsOnLoop : Design → Column → Type 0
IsOnLoop d c = (n : ℕ) × EdgesLead (drivers d) (suc n) c c

abbrev pub HasNoLoop : Design → Type 0
HasNoLoop d = (c : Column) → ¬ IsOnLoop d c

-- the paths of the pearls: the instances of the root, or the root itself where it has none
abbrev pub pearls : Design → List (List ℕ)
pearls d =
    if length (insts_of d d.root) == 0
    then [] ∷ []
    else map (λ i. i ∷ []) (range_with_len 0 (length (insts_of d d.root)))

-- a path leads into the pearl, or to it
abbrev pub IsInside : List ℕ → List ℕ → Type 0
IsInside pearl path = (inner : List ℕ) × (path ≡ inner ++ pearl)

-- so many edges lead from a to c, and all columns on the way lie in the pearl
abbrev pub WalkInside : Design → List ℕ → ℕ → Column → Column → Type 0
WalkInside d pearl zero a c = (a ≡ c) × IsInside pearl c.path
WalkInside d pearl (suc n) a c = (b : Column) × WalkInside d pearl n a b × Feeds (drivers d) b c × IsInside pearl c.path

-- in one row, an output of a pearl depends on an input of it
abbrev pub IsDependent : Design → List ℕ → List ℕ → List ℕ → Type 0
IsDependent d pearl input output = (n : ℕ) × WalkInside d pearl n (column pearl input) (column pearl output)
