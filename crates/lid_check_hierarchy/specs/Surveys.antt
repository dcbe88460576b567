-- How models are surveyed: what is found of the models of a design, model by model.
use Rattle.std.specs.Prelude.{◌≡◌, ◌↔◌, Bool, true, false, ℕ, ◌<◌, ◌≤◌, List, [], ◌∷◌, length, map, Option, Some, IsSome, slice_get, slice_index_or}
use Rattle.lid_base.specs.Lists.{Among}
use Rattle.lid_design.specs.declared.Design.{Design}
use Rattle.lid_design.specs.declared.Model.{Model}
use Rattle.lid_check_hierarchy.specs.declared.survey.SurveyFault.{SurveyFault}
use Rattle.lid_check_hierarchy.specs.declared.survey.SurveyFault.TheVariants.{Recursive, Memory}
use Rattle.lid_design.specs.WellFormed.{IsWellFormed}
use Rattle.lid_design.specs.Columns.{is_among}
use Rattle.lid_design.specs.Elaboration.{model_nets}
use Rattle.lid_check_table.specs.Tables.{names_in, AreNumbersOf}
use Rattle.lid_check_hierarchy.specs.Nets.{net_places}
use Rattle.lid_design.specs.Models.{number_named, insts_of, instance_number, is_clock_of, data_inputs_of, IsReached, HasNoRecursion, AreReached, IsFirstRecursive}

-- for each model, the number of the model of each of its instances, where there is one
abbrev pub instance_numbers : Design → List (List (Option ℕ))
instance_numbers d = map (λ m. map (λ inst. number_named d inst.model) m.insts) d.models

-- a mark for each model, which is set exactly where the model is reached
pub record AreReachedMarks (d : Design) (marks : List Bool) : Type 0 where
  pub size : length marks ≡ length d.models
  pub exact : (k : ℕ) → (slice_index_or marks k false ≡ true) ↔ IsReached d k

-- what is known of how models use each other
pub record IsUses (d : Design) (numbers : List (List (Option ℕ))) (marks : List Bool) (reached : List ℕ) : Type 0 where
  pub formed : IsWellFormed d
  pub each : numbers ≡ instance_numbers d
  pub marked : AreReachedMarks d marks
  pub reach : AreReached d reached

-- each instance of a reached model has a model
abbrev pub AreKnown : Design → Type 0
AreKnown d = (k i : ℕ) → IsReached d k → i < length (insts_of d k) → IsSome (instance_number d i k)

-- each number stands after those of the models of its instances, among the earlier ones
abbrev pub StandsAfterItsModels : Design → List ℕ → List ℕ → Type 0
StandsAfterItsModels d earlier [] = Unit {0}
StandsAfterItsModels d earlier (k ∷ ks) =
    ((i j : ℕ) → instance_number d i k ≡ Some j → Among j earlier) × StandsAfterItsModels d (k ∷ earlier) ks

-- an order of the reached models, each once, in which each stands after the models of its instances
pub record IsModelOrder (d : Design) (order : List ℕ) : Type 0 where
  pub each : (k : ℕ) → IsReached d k → Among k order
  pub only : (k : ℕ) → Among k order → IsReached d k
  pub short : length order ≤ length d.models
  pub after : StandsAfterItsModels d [] order

-- the names of the models by numbers, and of those that are reached the clock names, the nets and the data inputs, each
-- in its place
pub record AreNames (d : Design) (tables : List Model) (clocks : List (List (List ℕ))) (numbers : List (List ℕ)) (places : List (List (Option ℕ))) (inputs : List (List (List ℕ))) : Type 0 where
  pub inside : (k : ℕ) → IsReached d k → k < length d.models
  pub each_table : tables ≡ d.models
  pub each_clock : length clocks ≡ length d.models
  pub each_numbers : length numbers ≡ length d.models
  pub each_places : length places ≡ length d.models
  pub each_inputs : length inputs ≡ length d.models
  pub clock : (k : ℕ) (name : List ℕ) → IsReached d k → is_among name (slice_index_or clocks k []) ≡ is_clock_of d k name
  pub nets : (k : ℕ) (m : Model) → IsReached d k → slice_get d.models k ≡ Some m → AreNumbersOf (names_in m) (model_nets d k) (slice_index_or numbers k [])
  pub placed : (k : ℕ) (m : Model) → IsReached d k → slice_get d.models k ≡ Some m → slice_index_or places k [] ≡ net_places (model_nets d k) (names_in m)
  pub given : (k : ℕ) → IsReached d k → slice_index_or inputs k [] ≡ data_inputs_of d k

-- what is known of the models that are reached
pub record IsSurvey (d : Design) (order : List ℕ) (tables : List Model) (clocks : List (List (List ℕ))) (numbers : List (List ℕ)) (places : List (List (Option ℕ))) (inputs : List (List (List ℕ))) : Type 0 where
  pub known : AreKnown d
  pub flat : HasNoRecursion d
  pub ordered : IsModelOrder d order
  pub names : AreNames d tables clocks numbers places inputs

-- a refusal: want of memory, or the first model that reaches itself
abbrev pub IsSurveyFault : Design → SurveyFault → Type 0
IsSurveyFault d (Recursive k) = IsFirstRecursive d k
IsSurveyFault d Memory = Unit {0}
