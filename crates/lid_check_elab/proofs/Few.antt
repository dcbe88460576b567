-- How much drives the nets of a model: no more than there are nets.
use Rattle.std.proofs.Common.{◌≡◌, ◌⊎◌, ℕ, ◌+◌, ◌≤◌, Bool, true, false, not, ◌&&◌, ◌||◌, List, [], ◌∷◌, ◌++◌, length, map, Option, Some, slice_get, inl, inr, refl, ap, subst, arith, length-append}
use Rattle.std.specs.Option.{option_map_or}
use Rattle.std.specs.List.{IsDistinct, flat_map, count_by}
use Rattle.std.specs.Str.{bytes_eq}
use Rattle.std.specs.Cmp.Lexicographic.{nat_list_eq_equiv}
use Rattle.std.proofs.lemmas.List.{length-map}
use Rattle.std.proofs.lemmas.Map.Made.{length-le_from_is_member}
use Rattle.lid_base.specs.Lists.{Among, AreOnce}
use Rattle.lid_base.proofs.Lists.{among_append, filter_among}
use Rattle.lid_base.proofs.Once.{once_distinct}
use Rattle.lid_base.proofs.Sums.{count_here}
use Rattle.lid_design.specs.declared.Design.{Design}
use Rattle.lid_design.specs.declared.Model.{Model}
use Rattle.lid_design.specs.Columns.{is_among, is_clock, data_inputs}
use Rattle.lid_design.specs.Models.{nets, inner_drivers, driven_by, read_names, cell_out, IsReached}
use Rattle.lid_design.specs.Elaboration.{model_nets}
use Rattle.lid_check_drivers.specs.Judged.{IsJudged}
use Rattle.lid_check_drivers.specs.Locals.{locals, model_locals}
use Rattle.lid_check_drivers.proofs.Names.{to_among, from_among, count-cons, count_some}
use Rattle.lid_check_drivers.proofs.Locals.{net_of, locals_named}
use Rattle.lid_check_drivers.proofs.Wired.{spot_input, occurs, sound, net_from}
use Rattle.lid_check_drivers.proofs.Driven.{inner_spot, driven_once}
use Rattle.lid_check_elab.specs.Parts.{data_of}
use Rattle.lid_check_elab.proofs.Counting.{nets_small}
use Rattle.lid_check_elab.proofs.Driving.{model_here, data_is}

-- names that are each counted once
are_once : (names : List (List ℕ)) → ((x : List ℕ) → Among x names → count_by (bytes_eq x) names ≤ 1) → AreOnce names
are_once [] once = tt
are_once (x ∷ names) once = (
  (λ there. let a = once x (inl refl) in let b = count_here x names in let e = count_some x names (from_among x names there) in omega arith),
  are_once names (λ y is. let e = once y (inr is) in let f = count-cons y x names in omega arith),
)

-- a test that is never met with its last part, which is
misused_inner : (c p r i : Bool) → (c && (p || (r || i))) ≡ false → i ≡ true → c ≡ false
misused_inner false p r i h is = refl
misused_inner true true r i h is = absurd (let e : true ≡ false = h in cc)
misused_inner true false true i h is = absurd (let e : true ≡ false = h in cc)
misused_inner true false false true h is = absurd (let e : true ≡ false = h in cc)
misused_inner true false false false h is = absurd (let e : false ≡ true = is in cc)

unnot : (b : Bool) → not b ≡ true → b ≡ false
unnot false h = refl
unnot true h = absurd (let e : false ≡ true = h in cc)

module _ (d : Design) (judged : IsJudged d) (k : ℕ) (reached : IsReached d k) where
  module _ (m : Model) (here : slice_get d.models k ≡ Some m) where
    input_net : (net : List ℕ) → Among net (data_inputs d m) → Among net (nets d m)
    unfolding data_inputs
    input_net net is =
        let kept = filter_among (λ net. not (is_clock d m net)) net m.inputs is in
        net_from d judged k reached m here net (spot_input kept.0) (unnot (is_clock d m net) kept.1)

    inner_net : (net : List ℕ) → Among net (inner_drivers d m) → Among net (nets d m)
    inner_net net is =
        let spot = inner_spot d m net is in
        let used = (sound d judged k reached m here).clocks net (occurs m net spot) in
        net_from d judged k reached m here net spot (misused_inner (is_clock d m net) _ (is_among net (read_names d m)) (is_among net (inner_drivers d m)) used (from_among net (inner_drivers d m) is))

    driven_net : (net : List ℕ) → Among net (data_inputs d m ++ inner_drivers d m) → Among net (nets d m)
    driven_net net is = by (among_append net (data_inputs d m) (inner_drivers d m) is)
      where
        by : Among net (data_inputs d m) ⊎ Among net (inner_drivers d m) → Among net (nets d m)
        by (inl input) = input_net net input
        by (inr inner) = inner_net net inner

    few_driven : length (data_inputs d m) + length (inner_drivers d m) ≤ 1048576
    few_driven =
        let names = data_inputs d m ++ inner_drivers d m in
        let distinct : IsDistinct bytes_eq names = subst (IsDistinct bytes_eq) (locals_named d m) (once_distinct (map net_of (locals d m)) (are_once (map net_of (locals d m)) (driven_once d judged k reached m here))) in
        let few = length-le_from_is_member nat_list_eq_equiv names (nets d m) distinct (λ net is. from_among net (nets d m) (driven_net net (to_among net names is))) in
        let same : model_nets d k ≡ nets d m = ap (λ (o : Option Model). option_map_or (nets d) o []) here in
        let small = nets_small d judged k reached in
        omega (arith, ap length same, length-append (data_inputs d m) (inner_drivers d m))

    pub few_inputs : length (data_of d k m.inputs) ≤ 1048576
    few_inputs = omega (arith, few_driven, ap length (data_is d k m here))

    pub few_cells : length m.cells ≤ 1048576
    few_cells = omega (arith, few_driven, length-append (map cell_out m.cells) (flat_map (driven_by d) m.insts), length-map m.cells cell_out)

    few_here : length (model_locals d k) ≤ 1048576
    few_here =
        let same : model_locals d k ≡ locals d m = ap (λ (o : Option Model). option_map_or (locals d) o []) here in
        omega (arith, few_driven, ap length same, ap length (locals_named d m), length-map (locals d m) net_of, length-append (data_inputs d m) (inner_drivers d m))

  pub few_locals : length (model_locals d k) ≤ 1048576
  few_locals = let found = model_here d judged k reached in few_here found.0 found.1
