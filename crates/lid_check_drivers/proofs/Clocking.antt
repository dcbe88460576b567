-- Clock names of a model, and those of the models of its instances.
use Rattle.std.proofs.Common.{◌≡◌, ℕ, zero, suc, ◌<◌, true, false, ◌&&◌, List, [], ◌∷◌, length, Option, Some, None, option_and_then, slice_get, refl, sym, ◌∙◌, ap}
use Rattle.std.specs.Option.{option_map_or}
use Rattle.std.specs.Str.{bytes_eq}
use Rattle.std.proofs.lemmas.List.Quantifiers.{position-Some}
use Rattle.lid_base.specs.Lists.{Among}
use Rattle.lid_base.proofs.Lists.{get_among, bytes_same, any_true}
use Rattle.lid_design.specs.declared.Design.{Design}
use Rattle.lid_design.specs.declared.Model.{Model}
use Rattle.lid_design.specs.declared.Inst.{Inst}
use Rattle.lid_design.specs.declared.Bind.{Bind}
use Rattle.lid_design.specs.Columns.{model_named, model_at, instance_model, is_own_clock, is_clock_within, is_clock}
use Rattle.lid_design.specs.Models.{number_named, instance_number, number_from, is_clock_of, IsReached}
use Rattle.lid_check_hierarchy.specs.Clocks.{binds_to, inst_binds, is_clock_in}
use Rattle.lid_check_drivers.specs.Judged.{IsJudged}
use Rattle.lid_check_hierarchy.proofs.Fixpoints.{find_position, clock_fixpoint}
use Rattle.std.proofs.lemmas.Bool.{or_left, or_right, and_from}

-- what a model makes a clock name itself is one
pub own_clock : (d : Design) (m : Model) (net : List ℕ) → is_own_clock m net ≡ true → is_clock d m net ≡ true
unfolding is_clock
own_clock d m net own = by (length d.models)
  where
    by : (n : ℕ) → is_clock_within n d m net ≡ true
    by zero = own
    by (suc n) = or_left (is_own_clock m net) _ own

-- the model that an instance names is the one of its number
pub named_model : (d : Design) (inst : Inst) (j : ℕ) → number_named d inst.model ≡ Some j → model_named d inst.model ≡ slice_get d.models j
named_model d inst j names = find_position (λ m. bytes_eq m.name inst.model) d.models ∙ ap (option_and_then (slice_get d.models)) names

-- a net that an instance binds to a clock name of its model is one
pub bound_clock : (d : Design) → IsJudged d → (k : ℕ) → IsReached d k → (m : Model) → slice_get d.models k ≡ Some m → (i : ℕ) (inst : Inst) → slice_get m.insts i ≡ Some inst → (j : ℕ) (sub : Model) → number_named d inst.model ≡ Some j → slice_get d.models j ≡ Some sub → (b : Bind) → Among b inst.binds → is_clock d sub b.formal ≡ true → is_clock d m b.actual ≡ true
bound_clock d judged k reached m here i inst at j sub names there b bound clock =
    ap (λ (o : Option Model). option_map_or (λ m. is_clock d m b.actual) o false) (sym here)
    ∙ clock_fixpoint d judged.formed judged.order judged.ordered k (judged.ordered.each k reached) b.actual
    ∙ ap (λ (o : Option Model). option_map_or (is_clock_in d (is_clock_of d) b.actual) o false) here
    ∙ or_right (is_own_clock m b.actual) _ (any_true (inst_binds d (is_clock_of d) b.actual) m.insts inst (get_among m.insts i inst at) of_inst)
  where
    formal_clock : is_clock_of d j b.formal ≡ true
    formal_clock = ap (λ (o : Option Model). option_map_or (λ m. is_clock d m b.formal) o false) there ∙ clock

    of_inst : inst_binds d (is_clock_of d) b.actual inst ≡ true
    of_inst = ap (λ (o : Option ℕ). option_map_or (λ j. binds_to (is_clock_of d j) b.actual inst.binds) o false) names ∙ any_true (λ c. bytes_eq c.actual b.actual && is_clock_of d j c.formal) inst.binds b bound (and_from (bytes_eq b.actual b.actual) (is_clock_of d j b.formal) (bytes_same b.actual b.actual refl) formal_clock)

-- the model at a path is the one of its number
pub model_at_number : (d : Design) (path : List ℕ) → model_at d path ≡ option_and_then (slice_get d.models) (number_from d d.root path)
unfolding model_at number_from
model_at_number d [] = refl
model_at_number d (i ∷ path) = ap (option_and_then (instance_model d i)) (model_at_number d path) ∙ by (number_from d d.root path)
  where
    of_model : (k : ℕ) (o : Option Model) → slice_get d.models k ≡ o → option_and_then (instance_model d i) o ≡ option_and_then (slice_get d.models) (option_and_then (λ inst. number_named d inst.model) (slice_get (option_map_or (λ m. m.insts) o []) i))
    of_model k None here = refl
    of_model k (Some m) here = of_inst (slice_get m.insts i)
      where
        of_inst : (o : Option Inst) → option_and_then (λ inst. model_named d inst.model) o ≡ option_and_then (slice_get d.models) (option_and_then (λ inst. number_named d inst.model) o)
        of_inst None = refl
        of_inst (Some inst) = find_position (λ m. bytes_eq m.name inst.model) d.models

    by : (o : Option ℕ) → option_and_then (instance_model d i) (option_and_then (slice_get d.models) o) ≡ option_and_then (slice_get d.models) (option_and_then (instance_number d i) o)
    by None = refl
    by (Some k) = of_model k (slice_get d.models k) refl

-- the number of a model that an instance names is that of a model
pub number_within : (d : Design) (inst : Inst) (j : ℕ) → number_named d inst.model ≡ Some j → (m : Model) → Among m d.models → j < length d.models
number_within d inst j names m some = (position-Some (λ m. bytes_eq m.name inst.model) d.models j m names).0
