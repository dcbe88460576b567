-- The root of an accepted design has at most as many outputs, and data inputs, as columns.
use Rattle.std.proofs.Common.{◌≡◌, ℕ, ◌≤◌, Bool, true, false, not, List, [], ◌∷◌, length, map, Option, Some, None, slice_get, inl, inr, refl, sym, ◌∙◌, ap, subst, arith}
use Rattle.std.specs.List.{AllByRecursion, IsDistinct}
use Rattle.std.specs.Option.{option_map_or}
use Rattle.std.specs.Str.{bytes_eq}
use Rattle.std.specs.Cmp.{IsEquivalence}
use Rattle.std.proofs.lemmas.List.{length-append, length-map}
use Rattle.std.proofs.lemmas.Map.Made.{length-le_from_is_member}
use Rattle.lid_base.specs.Lists.{Among, AreOnce}
use Rattle.lid_base.proofs.Lists.{same_bytes, bytes_same}
use Rattle.lid_design.specs.declared.Design.{Design}
use Rattle.lid_design.specs.declared.Model.{Model}
use Rattle.lid_design.specs.Columns.{column, is_clock, data_inputs, root_inputs, root_outputs}
use Rattle.lid_design.specs.Models.{nets, IsReached}
use Rattle.lid_design.specs.Elaboration.{model_nets, columns}
use Rattle.lid_design.specs.WellFormed.{IsWellFormed}
use Rattle.lid_design.proofs.Reached.{root_reached}
use Rattle.lid_check_hierarchy.proofs.Numbers.{bytes_eq_comm}
use Rattle.lid_check_rules.specs.Acceptance.{ModelsPass}
use Rattle.lid_check_drivers.specs.Judged.{IsJudged}
use Rattle.lid_check_drivers.proofs.Names.{to_among, from_among}
use Rattle.lid_check_drivers.proofs.Wired.{output_read, read_is_net}
use Rattle.lid_check_drivers.proofs.Limits.{few_columns}
use Rattle.lid_check_elab.specs.Numbers.{start_of, columns_in}
use Rattle.lid_check_elab.proofs.Numbering.{numbering}
use Rattle.lid_check_parts.proofs.Columns.{stands_few}
use Rattle.lid_check_parts.proofs.Beginning.{inputs_apart, outputs_apart, columns_begin}
use Rattle.lid_base.proofs.Once.{once_filter, once_distinct}
use Rattle.lid_check_loops.proofs.Geometry.{input_net}
use Rattle.lid_check.proofs.Sound.{judged_of}

pub names_equal : IsEquivalence bytes_eq
names_equal = record {
  refl = λ x. bytes_same x x refl;
  symm = bytes_eq_comm;
  congr = λ x y z e. ap (λ (w : List ℕ). bytes_eq w z) (same_bytes x y e);
}

module _ (d : Design) (judged : IsJudged d) where
  -- the nets of a reached model are no more than there are columns
  pub nets_few : (k : ℕ) → IsReached d k → length (model_nets d k) ≤ 1048576
  nets_few k reached =
      let own = columns_in (length d.models) d reached.0 k in
      let within = stands_few (columns d) (start_of d reached.0) own (numbering d judged reached.0 k reached.1) in
      let begin = columns_begin d (length d.models) reached.0 k in
      let whole = ap length begin.1 ∙ length-append (map (column reached.0) (model_nets d k)) begin.0 in
      let long = length-map (model_nets d k) (column reached.0) in
      let few = few_columns d judged in
      omega arith

  few_names : (names : List (List ℕ)) → AreOnce names → ((net : List ℕ) → Among net names → Among net (model_nets d d.root)) → length names ≤ 1048576
  few_names names apart among =
      let few = length-le_from_is_member names_equal names (model_nets d d.root) (once_distinct names apart) (λ net is. from_among net (model_nets d d.root) (among net (to_among net names is))) in
      let all = nets_few d.root (root_reached d) in
      omega arith

  outputs_few : (m : Model) → slice_get d.models d.root ≡ Some m → length m.outputs ≤ 1048576
  outputs_few m here =
      let reached = root_reached d in
      let same : model_nets d d.root ≡ nets d m = ap (λ (o : Option Model). option_map_or (nets d) o []) here in
      few_names m.outputs (outputs_apart d judged d.root reached m here) (λ net among.
      subst (λ (xs : List (List ℕ)). Among net xs) (sym same) (read_is_net d judged d.root reached m here net (output_read d judged d.root reached m here net among)))

  inputs_few : (m : Model) → slice_get d.models d.root ≡ Some m → length (data_inputs d m) ≤ 1048576
  unfolding data_inputs
  inputs_few m here =
      few_names (data_inputs d m) (once_filter (λ net. not (is_clock d m net)) m.inputs (inputs_apart d judged d.root (root_reached d) m here)) (λ net among.
      input_net d d.root net (subst (λ (o : Option Model). Among net (option_map_or (data_inputs d) o [])) (sym here) among))

-- an accepted design has at most as many outputs as columns
pub few_outputs : (d : Design) → IsWellFormed d → ModelsPass d → length (root_outputs d) ≤ 1048576
few_outputs d formed pass = by (slice_get d.models d.root) refl
  where
    by : (o : Option Model) → slice_get d.models d.root ≡ o → length (option_map_or (λ m. m.outputs) o []) ≤ 1048576
    by None e = omega arith
    by (Some m) e = outputs_few d (judged_of d formed pass) m e

-- and as many data inputs
pub few_inputs : (d : Design) → IsWellFormed d → ModelsPass d → length (root_inputs d) ≤ 1048576
few_inputs d formed pass = by (slice_get d.models d.root) refl
  where
    by : (o : Option Model) → slice_get d.models d.root ≡ o → length (option_map_or (data_inputs d) o []) ≤ 1048576
    by None e = omega arith
    by (Some m) e = inputs_few d (judged_of d formed pass) m e
