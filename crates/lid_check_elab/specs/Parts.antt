-- What a template is made of, part by part.
use Rattle.std.specs.Prelude.{◌≡◌, ℕ, not, List, [], ◌∷◌, ◌++◌, length, map, filter, Option, Some, None, slice_get, slice_index_or}
use Rattle.std.specs.Option.{option_map_or}
use Rattle.lid_design.specs.declared.Design.{Design}
use Rattle.lid_design.specs.declared.Model.{Model}
use Rattle.lid_design.specs.declared.Inst.{Inst}
use Rattle.lid_design.specs.Models.{firsts, insts_of, number_named, instance_number, is_clock_of, IsReached, data_inputs_of}
use Rattle.lid_design.specs.Elaboration.{model_nets}
use Rattle.lid_check_elab.specs.Numbers.{size_of, offset_of}
use Rattle.lid_check_drivers.specs.Locals.{Local, NetLocal, values_of, actual_for, model_locals}
use Rattle.lid_check_elab.specs.Templates.{shown_local, name_at, net_place, net_by_place}
use Rattle.lid_check_elab.specs.declared.driven.Driven.{Driven}
use Rattle.lid_check_elab.specs.declared.template.LocalDriver.{LocalDriver}
use Rattle.lid_check_elab.specs.declared.template.Template.{Template}

-- for each model of some, how many columns it and its instances have; nothing for the others
pub record AreSizes (d : Design) (some : ℕ → Type 0) (sizes : List (Option ℕ)) : Type 0 where
  pub long : length sizes ≡ length d.models
  pub each : (k : ℕ) → some k → slice_index_or sizes k None ≡ Some (size_of d k)
  pub only : (k n : ℕ) → slice_index_or sizes k None ≡ Some n → some k

-- the sizes of the models of a model's instances are there
abbrev pub HasSizes : Design → ℕ → List (Option ℕ) → Type 0
HasSizes d k sizes = (i j : ℕ) → instance_number d i k ≡ Some j → slice_index_or sizes j None ≡ Some (size_of d j)

-- the net that is driven
abbrev pub driven_net : NetLocal → Option (List ℕ)
driven_net p = Some p.0

abbrev pub numbered_local : Design → ℕ → NetLocal → Local ℕ
numbered_local d k p = net_by_place d k p.1

-- a net, by its number, and what drives it were pushed
pub record PushesNet (net : ℕ) (local : LocalDriver) (old new : Driven) : Type 0 where
  pub nets : new.nets.items ≡ old.nets.items ++ net ∷ []
  pub locals : new.locals.items ≡ old.locals.items ++ local ∷ []

-- some drivers of nets of model k were pushed
pub record Grows (d : Design) (k : ℕ) (ps : List NetLocal) (old new : Driven) : Type 0 where
  pub nets : map (name_at d k) new.nets.items ≡ map (name_at d k) old.nets.items ++ map driven_net ps
  pub locals : map (shown_local d) new.locals.items ≡ map (shown_local d) old.locals.items ++ map (numbered_local d k) ps

-- these are drivers of nets of model k
pub record ShowsDrivers (d : Design) (k : ℕ) (ps : List NetLocal) (driven : Driven) : Type 0 where
  pub nets : map (name_at d k) driven.nets.items ≡ map driven_net ps
  pub locals : map (shown_local d) driven.locals.items ≡ map (numbered_local d k) ps

-- the inputs of a list that are no clock names of the model of a number
abbrev pub data_of : Design → ℕ → List (List ℕ) → List (List ℕ)
data_of d k names = filter (λ net. not (is_clock_of d k net)) names

-- the set of the outputs of each model
abbrev pub output_sets : List Model → List (List (List ℕ))
output_sets ms = map (λ m. firsts m.outputs) ms

-- for each net of model k, a place at which its number stands in a list, where it stands there
pub record ArePlaces (d : Design) (k : ℕ) (numbers places : List ℕ) : Type 0 where
  pub long : length places ≡ length (model_nets d k)
  pub each : (j place other : ℕ) (net : List ℕ) → slice_get places j ≡ Some place → slice_get (model_nets d k) j ≡ Some net → slice_get (map (name_at d k) numbers) other ≡ Some (Some net) → slice_get (map (name_at d k) numbers) place ≡ Some (Some net)

-- the nets of model k that the data inputs of an instance are bound to, where its model has number j
abbrev pub places_bound : Design → ℕ → ℕ → Inst → List ℕ
places_bound d k j inst = map (λ formal. net_place d k (actual_for inst formal)) (data_inputs_of d j)

abbrev pub places_in_inst : Design → ℕ → Inst → List ℕ
places_in_inst d k inst = option_map_or (λ j. places_bound d k j inst) (number_named d inst.model) []

-- what drives a net of a model, by the list of all that drive nets of it
pub record IsPicked (d : Design) (k : ℕ) (all : List LocalDriver) (pick : ℕ) (net : List ℕ) : Type 0 where
  pub local : Local (List ℕ)
  pub only : values_of net (model_locals d k) ≡ local ∷ []
  pub driver : LocalDriver
  pub here : slice_get all pick ≡ Some driver
  pub shown : shown_local d driver ≡ net_by_place d k local

-- for each net of a model, the place among some drivers of what drives it
pub record ArePicked (d : Design) (k : ℕ) (all : List LocalDriver) (picks : List ℕ) : Type 0 where
  pub long : length picks ≡ length (model_nets d k)
  pub each : (j pick : ℕ) (net : List ℕ) → slice_get picks j ≡ Some pick → slice_get (model_nets d k) j ≡ Some net → IsPicked d k all pick net

-- for each instance of model k, how many columns of the model and of earlier instances stand before it
pub record HasOffsets (d : Design) (k : ℕ) (offsets : List ℕ) : Type 0 where
  pub long : length offsets ≡ length (insts_of d k)
  pub each : (i o : ℕ) → slice_get offsets i ≡ Some o → o ≡ offset_of d k i

-- what is known of a model before it is placed: what drives its nets, where its instances start, and
-- the nets that their data inputs are bound to
pub record IsTemplate (d : Design) (k : ℕ) (t : Template) : Type 0 where
  pub picked : ArePicked d k t.locals t.picks
  pub offsets : HasOffsets d k t.offsets
  pub actuals : t.actuals ≡ map (places_in_inst d k) (insts_of d k)

abbrev pub AreTemplates : Design → List Template → Type 0
AreTemplates d ts = (k : ℕ) → IsReached d k → (t : Template) × (slice_get ts k ≡ Some t) × IsTemplate d k t
