-- How models are ordered: their graph, in which each reads the models of its instances.
use Rattle.std.specs.Prelude.{◌≡◌, Some, length, ℕ, ◌+◌, Bool, true, false, List, [], ◌∷◌, map, filter, filter_map, position, Option}
use Rattle.std.specs.Str.{bytes_eq}
use Rattle.lid_base.specs.Lists.{Among}
use Rattle.lid_design.specs.declared.Design.{Design}
use Rattle.lid_design.specs.declared.Model.{Model}
use Rattle.lid_design.specs.declared.Inst.{Inst}
use Rattle.lid_design.specs.Models.{IsReached, instance_number}
use Rattle.lid_check_digraph.specs.Graphs.{reads_at, flag}
use Rattle.lid_check_hierarchy.specs.Surveys.{instance_numbers, AreReachedMarks}

abbrev pub name_of : Model → List ℕ
name_of m = m.name

-- the number of the model of an instance, by the names of the models
abbrev pub number_by : List (List ℕ) → Inst → Option ℕ
number_by names inst = position (bytes_eq inst.model) names

-- the numbers of the models of a model's instances, by the names of the models
abbrev pub row_by : List (List ℕ) → Model → List (Option ℕ)
row_by names m = map (number_by names) m.insts

-- the numbers that are there
abbrev pub some_of : List (Option ℕ) → List ℕ
some_of numbers = filter_map (λ (n : Option ℕ). n) numbers

-- for each model, the numbers of the models of its instances
unfoldable pub graph_of : Design → List (List ℕ)
graph_of d = map some_of (instance_numbers d)

-- the places from k on where a list has true
abbrev pub places_of_true : ℕ → List Bool → List ℕ
places_of_true k [] = []
places_of_true k (true ∷ flags) = k ∷ places_of_true (k + 1) flags
places_of_true k (false ∷ flags) = places_of_true (k + 1) flags

-- what a model reads where it is marked
abbrev pub kept_row : Bool → List (Option ℕ) → List ℕ
kept_row true row = some_of row
kept_row false row = []

-- for each model, the numbers of the models of its instances where it is marked, and else none
abbrev pub kept : List Bool → List (List (Option ℕ)) → List (List ℕ)
kept [] rows = []
kept (mark ∷ marks) [] = []
kept (mark ∷ marks) (row ∷ rows) = kept_row mark row ∷ kept marks rows

-- the graph of the models that are reached: each reads the models of its instances
pub record IsUsedGraph (d : Design) (g : List (List ℕ)) : Type 0 where
  pub size : length g ≡ length d.models
  pub only : (k b : ℕ) → Among b (reads_at g k) → IsReached d k × ((i : ℕ) × (instance_number d i k ≡ Some b))
  pub each : (k b i : ℕ) → IsReached d k → instance_number d i k ≡ Some b → Among b (reads_at g k)

-- those of some models that are reached, in order
pub record AreReachedAmong (d : Design) (models kept : List ℕ) : Type 0 where
  pub marks : List Bool
  pub marked : AreReachedMarks d marks
  pub same : kept ≡ filter (flag marks) models
