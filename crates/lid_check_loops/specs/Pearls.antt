-- Pearls, and the numbers of their columns.
use Rattle.std.specs.Prelude.{◌≡◌, ◌↔◌, ℕ, ◌+◌, ◌<◌, ◌≤◌, ◌==◌, Bool, true, false, if◌then◌else◌, List, [], ◌∷◌, length, position, Option, Some, option_map, slice_get}
use Rattle.std.specs.Option.{option_map_or}
use Rattle.std.specs.Str.{bytes_eq}
use Rattle.lid_base.specs.Lists.{Among}
use Rattle.lid_design.specs.declared.Design.{Design}
use Rattle.lid_design.specs.declared.Model.{Model}
use Rattle.lid_design.specs.Columns.{model_at}
use Rattle.lid_design.specs.Models.{IsReached, insts_of, instance_number, data_inputs_of}
use Rattle.lid_design.specs.Elaboration.{model_nets}
use Rattle.lid_design.specs.Loops.{pearls, IsDependent}
use Rattle.lid_check_digraph.specs.Graphs.{flag, IsReaching, IsReached as IsReachedFrom}
use Rattle.lid_check_loops.specs.declared.pearls.Pearl.{Pearl}

-- the number of the column of a net of a pearl, where it has one
abbrev pub number_in : Design → Pearl → List ℕ → Option ℕ
number_in d pearl net = option_map (λ j. pearl.start + j) (position (bytes_eq net) (model_nets d pearl.model))

-- the column of a number belongs to one of some nets of a pearl
abbrev pub IsNumberOf : Design → Pearl → List (List ℕ) → ℕ → Type 0
IsNumberOf d pearl names k = (name : List ℕ) × Among name names × (number_in d pearl name ≡ Some k)

-- the column of a number belongs to a data input of one of some pearls
abbrev pub IsInputOf : Design → List Pearl → ℕ → Type 0
IsInputOf d ps k = (pearl : Pearl) × Among pearl ps × IsNumberOf d pearl (data_inputs_of d pearl.model) k

-- the model of a pearl is reached, and the columns of its nets are among so many
pub record IsFittingPearl (d : Design) (n : ℕ) (pearl : Pearl) : Type 0 where
  pub reached : IsReached d pearl.model
  pub below : (j : ℕ) → j < length (model_nets d pearl.model) → pearl.start + j < n

-- whether the column of a net of a pearl is marked
abbrev pub is_marked : Design → Pearl → List Bool → List ℕ → Bool
is_marked d pearl marks net = option_map_or (flag marks) (number_in d pearl net) false

-- the first of some nets of a pearl whose column is marked
pub record IsFirstMarked (d : Design) (pearl : Pearl) (marks : List Bool) (names : List (List ℕ)) (i : ℕ) : Type 0 where
  pub name : List ℕ
  pub here : slice_get names i ≡ Some name
  pub on : is_marked d pearl marks name ≡ true
  pub first : (j : ℕ) (other : List ℕ) → j < i → slice_get names j ≡ Some other → is_marked d pearl marks other ≡ false

-- the columns of some nets of a pearl are not marked
abbrev pub AreUnmarked : Design → Pearl → List Bool → List (List ℕ) → Type 0
AreUnmarked d pearl marks names = (j : ℕ) (name : List ℕ) → slice_get names j ≡ Some name → is_marked d pearl marks name ≡ false

-- a pearl for each instance of the root, with the numbers of their first columns; the root itself
-- where it has none
pub record ArePearls (d : Design) (starts : List ℕ) (ps : List Pearl) : Type 0 where
  pub whole : length (insts_of d d.root) ≡ 0 → ps ≡ record { model = d.root; start = 0 } ∷ []
  pub count : 0 < length (insts_of d d.root) → length ps ≡ length starts
  pub each :
      (i start : ℕ) (pearl : Pearl)
      → 0 < length (insts_of d d.root)
      → slice_get starts i ≡ Some start
      → slice_get ps i ≡ Some pearl
      → (instance_number d i d.root ≡ Some pearl.model) × (pearl.start ≡ start)

-- a walk of numbers past the cut leads from one net of a pearl to another
abbrev pub LeadsInPearl : Design → List (List ℕ) → List Bool → Pearl → List ℕ → List ℕ → Type 0
LeadsInPearl d g cut pearl input output =
    (a : ℕ) × (k : ℕ) × (number_in d pearl input ≡ Some a) × (number_in d pearl output ≡ Some k) × IsReaching g cut a k

-- the cut keeps walks of numbers in the pearl
pub record IsCutOff (d : Design) (g : List (List ℕ)) (cut : List Bool) (path : List ℕ) (pearl : Pearl) : Type 0 where
  pub model : model_at d path ≡ slice_get d.models pearl.model
  pub fits : IsFittingPearl d (length g) pearl
  pub exact :
      (input output : List ℕ)
      → Among input (data_inputs_of d pearl.model)
      → IsDependent d path input output ↔ LeadsInPearl d g cut pearl input output

-- the cut and the marks of the columns of a graph, which are no more than a design may have
pub record AreMarks (g : List (List ℕ)) (cut reached : List Bool) : Type 0 where
  pub all_cut : length cut ≡ length g
  pub all_reached : length reached ≡ length g
  pub few : length g ≤ 1048576

-- the marks tell of each output of a pearl whether a data input of it leads there
abbrev pub AreReachedIn : Design → List (List ℕ) → List Bool → List Bool → Pearl → Type 0
AreReachedIn d g cut reached pearl =
    (output : List ℕ)
    → (is_marked d pearl reached output ≡ true)
    ↔ ((input : List ℕ) × Among input (data_inputs_of d pearl.model) × LeadsInPearl d g cut pearl input output)

-- the cut keeps walks of numbers in their pearls, and the marks tell where data inputs lead
pub record AreCutOff (d : Design) (g : List (List ℕ)) (cut reached : List Bool) (ps : List Pearl) : Type 0 where
  pub count : length ps ≡ length (pearls d)
  pub each : (p : ℕ) (path : List ℕ) (pearl : Pearl) → slice_get (pearls d) p ≡ Some path → slice_get ps p ≡ Some pearl → IsCutOff d g cut path pearl
  pub marks : (p : ℕ) (pearl : Pearl) → slice_get ps p ≡ Some pearl → AreReachedIn d g cut reached pearl

-- how many columns are cut: those of the root where it has instances
abbrev pub count_cut : Design → ℕ
count_cut d = if length (insts_of d d.root) == 0 then 0 else length (model_nets d d.root)

-- no data input of a pearl leads to an output of it
abbrev pub NoneLeads : Design → List (List ℕ) → List Bool → Pearl → Type 0
NoneLeads d g cut pearl =
    (o : ℕ) (m : Model) (input output : List ℕ)
    → slice_get d.models pearl.model ≡ Some m
    → slice_get m.outputs o ≡ Some output
    → Among input (data_inputs_of d pearl.model)
    → ¬ LeadsInPearl d g cut pearl input output

-- the place among the data inputs of a pearl of the first one that leads to an output of it
pub record IsFirstInput (d : Design) (g : List (List ℕ)) (cut : List Bool) (pearl : Pearl) (output : List ℕ) (i : ℕ) : Type 0 where
  pub input : List ℕ
  pub here : slice_get (data_inputs_of d pearl.model) i ≡ Some input
  pub on : LeadsInPearl d g cut pearl input output
  pub first : (j : ℕ) (other : List ℕ) → j < i → slice_get (data_inputs_of d pearl.model) j ≡ Some other → ¬ LeadsInPearl d g cut pearl other output

-- marks tell of each column whether a data input of a pearl leads to it past the cut
abbrev pub AreInputMarks : Design → List (List ℕ) → List Bool → List Pearl → List Bool → Type 0
AreInputMarks d g cut ps led =
    (starts : List Bool)
    × ((k : ℕ) → (flag starts k ≡ true) ↔ IsInputOf d ps k)
    × ((k : ℕ) → k < length g → (flag led k ≡ true) ↔ IsReachedFrom g cut starts k)

-- past the cut, walks stay in their pearls
abbrev pub CutsOff : Design → List (List ℕ) → List Bool → List Pearl → Type 0
CutsOff d g cut ps = (led : List Bool) → AreInputMarks d g cut ps led → AreCutOff d g cut led ps
