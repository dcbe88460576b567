-- The model of an instance, by its number.
use Rattle.std.proofs.Common.{◌≡◌, ℕ, false, not, ◌&&◌, [], ◌∷◌, map, filter, Option, Some, None, option_and_then, slice_get, sym, ◌∙◌, ap}
use Rattle.std.specs.Option.{option_map_or}
use Rattle.std.specs.Str.{bytes_eq}
use Rattle.lid_base.proofs.Lists.{filter_same}
use Rattle.lid_design.specs.declared.Design.{Design}
use Rattle.lid_design.specs.declared.Model.{Model}
use Rattle.lid_design.specs.declared.Inst.{Inst}
use Rattle.lid_design.specs.Columns.{is_among, model_named, is_clock, data_inputs}
use Rattle.lid_design.specs.Models.{number_named, insts_of, instance_number, number_from, IsReached, actual_of}
use Rattle.lid_check_hierarchy.proofs.Fixpoints.{find_position}
use Rattle.lid_check_hierarchy.proofs.Orders.{reached_through}
use Rattle.lid_check_names.proofs.Numbers.{position_below}
use Rattle.lid_check_ports.specs.declared.nets.Side.{Side}
use Rattle.lid_check_ports.specs.declared.nets.Side.TheVariants.{Driven, Read}
use Rattle.lid_check_ports.specs.Nets.{actuals_on, nets_on}
use Rattle.lid_check_ports.proofs.Sets.{is_among_filter}
use Rattle.lid_base.proofs.Places.{item_at}

-- instance i of model k, whose model has the number j
module _ (d : Design) (k i : ℕ) (inst : Inst) (here : slice_get (insts_of d k) i ≡ Some inst) where
  pub number_is : instance_number d i k ≡ number_named d inst.model
  number_is = ap (option_and_then (λ inst. number_named d inst.model)) here

  pub named_by : (o : Option ℕ) → instance_number d i k ≡ o → model_named d inst.model ≡ option_and_then (slice_get d.models) o
  named_by o is = find_position (λ m. bytes_eq m.name inst.model) d.models ∙ ap (option_and_then (slice_get d.models)) (sym number_is ∙ is)

  pub sub_there : (j : ℕ) → instance_number d i k ≡ Some j → (m : Model) × (slice_get d.models j ≡ Some m)
  sub_there j is = item_at d.models j (position_below (λ m. bytes_eq m.name inst.model) d.models j (sym number_is ∙ is))

  pub sub_reached : (j : ℕ) → IsReached d k → instance_number d i k ≡ Some j → IsReached d j
  unfolding number_from
  sub_reached j reached is = reached_through d k j (i ∷ []) reached is

  pub none_by : {B : Type 0} (f : Model → Option B) → instance_number d i k ≡ None → None ≡ option_and_then f (model_named d inst.model)
  none_by f is = sym (ap (option_and_then f) (named_by None is))

  -- what the instance drives or reads
  pub on_none : (side : Side) → instance_number d i k ≡ None → nets_on side d inst ≡ []
  on_none Driven is = ap (λ (o : Option Model). option_map_or (λ m. map actual_of (filter (λ b. is_among b.formal m.outputs) inst.binds)) o []) (named_by None is)
  on_none Read is = ap (λ (o : Option Model). option_map_or (λ m. map actual_of (filter (λ b. is_among b.formal (data_inputs d m)) inst.binds)) o []) (named_by None is)

  pub on_some : (side : Side) (j : ℕ) → instance_number d i k ≡ Some j → actuals_on side d j inst.binds ≡ nets_on side d inst
  unfolding data_inputs
  on_some Driven j is =
      let m = sub_there j is in
      ap (λ (o : Option Model). map actual_of (filter (λ b. option_map_or (λ m. is_among b.formal m.outputs) o false) inst.binds)) m.1
      ∙ sym (ap (λ (o : Option Model). option_map_or (λ m. map actual_of (filter (λ b. is_among b.formal m.outputs) inst.binds)) o []) (named_by (Some j) is ∙ m.1))
  on_some Read j is =
      let m = sub_there j is in
      ap (λ (o : Option Model). map actual_of (filter (λ b. option_map_or (λ m. is_among b.formal m.inputs) o false && not (option_map_or (λ m. is_clock d m b.formal) o false)) inst.binds)) m.1
      ∙ ap (map actual_of) (filter_same (λ b. is_among b.formal m.0.inputs && not (is_clock d m.0 b.formal)) (λ b. is_among b.formal (data_inputs d m.0)) inst.binds (λ b. sym (is_among_filter (λ n. not (is_clock d m.0 n)) b.formal m.0.inputs)))
      ∙ sym (ap (λ (o : Option Model). option_map_or (λ m. map actual_of (filter (λ b. is_among b.formal (data_inputs d m)) inst.binds)) o []) (named_by (Some j) is ∙ m.1))
