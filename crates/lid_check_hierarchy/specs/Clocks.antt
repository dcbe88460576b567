-- How clock names are found: those of a model from those of the models of its instances.
use Rattle.std.specs.Prelude.{◌≡◌, ℕ, Bool, false, ◌&&◌, ◌||◌, List, [], length, slice_get, slice_index_or}
use Rattle.std.specs.Option.{option_map_or}
use Rattle.std.specs.List.{list_any}
use Rattle.std.specs.Str.{bytes_eq}
use Rattle.lid_base.specs.Lists.{Among}
use Rattle.lid_design.specs.declared.Design.{Design}
use Rattle.lid_design.specs.declared.Model.{Model}
use Rattle.lid_design.specs.declared.Inst.{Inst}
use Rattle.lid_design.specs.declared.Bind.{Bind}
use Rattle.lid_design.specs.Columns.{is_among, is_own_clock}
use Rattle.lid_design.specs.Models.{number_named, is_clock_of}

-- whether a net is bound to a formal that a test takes
abbrev pub binds_to : (List ℕ → Bool) → List ℕ → List Bind → Bool
binds_to test net binds = list_any (λ b. bytes_eq b.actual net && test b.formal) binds

-- whether an instance binds a net to a clock name of its model, by a test of each model
abbrev pub inst_binds : Design → (ℕ → List ℕ → Bool) → List ℕ → Inst → Bool
inst_binds d test net inst = option_map_or (λ j. binds_to (test j) net inst.binds) (number_named d inst.model) false

-- whether a net of a model is a clock name, by a test of the models of its instances
abbrev pub is_clock_in : Design → (ℕ → List ℕ → Bool) → List ℕ → Model → Bool
is_clock_in d test net m = is_own_clock m net || list_any (inst_binds d test net) m.insts

abbrev pub is_clock_by : Design → (ℕ → List ℕ → Bool) → ℕ → List ℕ → Bool
is_clock_by d test k net = option_map_or (is_clock_in d test net) (slice_get d.models k) false

-- a test by sets of names, one for each model
abbrev pub in_sets : List (List (List ℕ)) → ℕ → List ℕ → Bool
in_sets sets k net = is_among net (slice_index_or sets k [])

-- the set has the clock names of model k, by the sets of the other models
abbrev pub HasClocks : Design → List (List (List ℕ)) → ℕ → List (List ℕ) → Type 0
HasClocks d sets k set = (net : List ℕ) → is_among net set ≡ is_clock_by d (in_sets sets) k net

-- a list of names grows by those that a test takes
abbrev pub GrowsBy : (List ℕ → Bool) → List (List ℕ) → List (List ℕ) → Type 0
GrowsBy test old new = (net : List ℕ) → is_among net new ≡ (is_among net old || test net)

-- the sets of the models of some numbers have their clock names
pub record HaveClocks (d : Design) (ks : List ℕ) (sets : List (List (List ℕ))) : Type 0 where
  pub size : length sets ≡ length d.models
  pub each : (k : ℕ) (net : List ℕ) → Among k ks → in_sets sets k net ≡ is_clock_of d k net
