-- The formals of an instance, by the number of its model.
use Rattle.std.proofs.Common.{◌≡◌, ℕ, false, not, ◌||◌, List, [], find, Option, Some, option_and_then, slice_get, sym, ◌∙◌, ap}
use Rattle.std.specs.Option.{option_map_or}
use Rattle.lid_design.specs.declared.Design.{Design}
use Rattle.lid_design.specs.declared.Model.{Model}
use Rattle.lid_design.specs.declared.Inst.{Inst}
use Rattle.lid_design.specs.Columns.{is_among, model_named, data_inputs}
use Rattle.lid_design.specs.Models.{insts_of, instance_number, is_port, firsts}
use Rattle.lid_check_ports.proofs.Subs.{named_by, sub_there}
use Rattle.lid_check_ports.specs.Formals.{is_port_of, first_unbound_of}
use Rattle.lid_check_names.proofs.Lists.{is_among_firsts}
use Rattle.lid_check_ports.proofs.Sets.{find_same}

-- instance i of model k, whose model has the number j
module _ (d : Design) (k i : ℕ) (inst : Inst) (here : slice_get (insts_of d k) i ≡ Some inst) where
  -- the first formal that is in no list of the model
  pub unknown_by : (xs : List (List ℕ)) (j : ℕ) → instance_number d i k ≡ Some j → find (λ n. not (is_port_of d j n)) xs ≡ option_and_then (λ m. find (λ n. not (is_port m n)) xs) (model_named d inst.model)
  unknown_by xs j is =
      let m = sub_there d k i inst here j is in
      ap (λ (o : Option Model). find (λ n. not (option_map_or (λ m. is_among n m.inputs) o false || (option_map_or (λ m. is_among n m.outputs) o false || option_map_or (λ m. is_among n m.clocks) o false))) xs) m.1
      ∙ sym (ap (option_and_then (λ m. find (λ n. not (is_port m n)) xs)) (named_by d k i inst here (Some j) is ∙ m.1))

  -- the first data input that is not bound
  pub unbound_by : (bound names : List (List ℕ)) → bound ≡ firsts names → (j : ℕ) → instance_number d i k ≡ Some j → first_unbound_of d j bound ≡ option_and_then (λ m. find (λ n. not (is_among n names)) (data_inputs d m)) (model_named d inst.model)
  unbound_by bound names whole j is =
      let m = sub_there d k i inst here j is in
      ap (λ (o : Option Model). find (λ n. not (is_among n bound)) (option_map_or (data_inputs d) o [])) m.1
      ∙ find_same (λ n. not (is_among n bound)) (λ n. not (is_among n names)) (data_inputs d m.0) (λ n. ap not (ap (is_among n) whole ∙ is_among_firsts n names))
      ∙ sym (ap (option_and_then (λ m. find (λ n. not (is_among n names)) (data_inputs d m))) (named_by d k i inst here (Some j) is ∙ m.1))
