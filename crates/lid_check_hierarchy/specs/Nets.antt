-- How nets and data inputs are found: those of each model by the set of its clock names, the nets by the numbers of
-- the model's names.
use Rattle.std.specs.Prelude.{ℕ, ◌+◌, Bool, true, false, not, List, [], ◌∷◌, map, filter, filter_map, position, Option, Some, None}
use Rattle.std.specs.Str.{bytes_eq}
use Rattle.lid_design.specs.declared.Model.{Model}
use Rattle.lid_design.specs.Columns.{is_among}
use Rattle.lid_check_table.specs.Tables.{names_in}
use Rattle.lid_check_table.specs.Marks.{marks_of}

-- the names that are in no set
abbrev pub names_outside : List (List ℕ) → List (List ℕ) → List (List ℕ)
names_outside set names = filter (λ net. not (is_among net set)) names

-- the inputs of a model, without clock names
abbrev pub inputs_by : Model → List (List ℕ) → List (List ℕ)
inputs_by m clocks = names_outside clocks m.inputs

-- what is found of each model, by the sets of their clock names
abbrev pub by_clocks : {A : Type 0} → (Model → List (List ℕ) → A) → List Model → List (List (List ℕ)) → List A
by_clocks f [] sets = []
by_clocks f (m ∷ ms) [] = []
by_clocks f (m ∷ ms) (set ∷ sets) = f m set ∷ by_clocks f ms sets

abbrev pub inputs_of_all : List Model → List (List (List ℕ)) → List (List (List ℕ))
inputs_of_all = by_clocks inputs_by

-- for each name of a model, whether it is a clock name
abbrev pub clock_marks : Model → List (List ℕ) → List Bool
clock_marks m clocks = marks_of (names_in m) clocks

abbrev pub clock_marks_of_all : List Model → List (List (List ℕ)) → List (List Bool)
clock_marks_of_all = by_clocks clock_marks

-- for each of some names, its place among the nets, where it is one
abbrev pub net_places : List (List ℕ) → List (List ℕ) → List (Option ℕ)
net_places nets names = map (λ name. position (bytes_eq name) nets) names

-- For the loops that number: the numbers of those names of a list that are among others
abbrev pub numbers_of : List (List ℕ) → List (List ℕ) → List ℕ
numbers_of names list = filter_map (λ name. position (bytes_eq name) names) list

-- the places where a list has false, counted from k
abbrev pub places_of_false : ℕ → List Bool → List ℕ
places_of_false k [] = []
places_of_false k (true ∷ marks) = places_of_false (k + 1) marks
places_of_false k (false ∷ marks) = k ∷ places_of_false (k + 1) marks

-- at each false of a list how many came before it, counted from k, and at each true nothing
abbrev pub counts_of_false : ℕ → List Bool → List (Option ℕ)
counts_of_false k [] = []
counts_of_false k (true ∷ marks) = None ∷ counts_of_false k marks
counts_of_false k (false ∷ marks) = Some k ∷ counts_of_false (k + 1) marks
