-- Marks: for each name of a model, whether something holds of it.
use Rattle.std.specs.Prelude.{ℕ, Bool, true, false, if◌then◌else◌, List, [], ◌∷◌, map, slice_index_or, slice_set}
use Rattle.lid_design.specs.Columns.{is_among}
use Rattle.lid_design.specs.Models.{is_twice}

-- for each of some names, whether it stands in a list
abbrev pub marks_of : List (List ℕ) → List (List ℕ) → List Bool
marks_of names list = map (λ name. is_among name list) names

-- for each of some names, whether it stands in a list more than once
abbrev pub again_of : List (List ℕ) → List (List ℕ) → List Bool
again_of names list = map (is_twice list) names

-- For the loops that mark: the marks at some numbers are set
abbrev pub marked_at : List Bool → List ℕ → List Bool
marked_at marks [] = marks
marked_at marks (k ∷ ks) = marked_at (slice_set marks k true) ks

-- a mark that was set before is set in the second list
abbrev pub again_at : List Bool → List Bool → ℕ → List Bool
again_at marks twice k = if slice_index_or marks k false then slice_set twice k true else twice

abbrev pub again_at_all : List Bool → List Bool → List ℕ → List Bool
again_at_all marks twice [] = twice
again_at_all marks twice (k ∷ ks) = again_at_all (slice_set marks k true) (again_at marks twice k) ks
