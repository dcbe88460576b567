-- What is placed is the driver of its column.
use Rattle.std.proofs.Common.{◌≡◌, ℕ, zero, suc, ◌+◌, ◌<◌, ◌≤◌, Bool, List, [], ◌∷◌, ◌++◌, length, map, Option, Some, None, option_and_then, option_map, slice_get, slice_index, inl, inr, refl, sym, ◌∙◌, ap, subst, arith}
use Rattle.std.specs.Prelude.{slice_index_or}
use Rattle.std.specs.Option.{option_map_or}
use Rattle.std.specs.List.{All, AllByRecursion}
use Rattle.std.proofs.lemmas.Option.{get_or_from_slice_get, slice_get_within, slice_get-map}
use Rattle.lid_base.specs.Lists.{Among}
use Rattle.lid_base.proofs.Lists.{get_among}
use Rattle.lid_cover.specs.declared.Cover.{Cover}
use Rattle.lid_design.specs.declared.Design.{Design}
use Rattle.lid_design.specs.declared.Model.{Model}
use Rattle.lid_design.specs.declared.Inst.{Inst}
use Rattle.lid_design.specs.Network.{Driver, from_latch, from_cover, from_connection}
use Rattle.lid_design.specs.Columns.{Column, column, data_inputs, drivers}
use Rattle.lid_design.specs.Walks.{read_before}
use Rattle.lid_design.specs.Feeds.{read_now}
use Rattle.lid_design.specs.Models.{nets, insts_of, instance_number, number_named, number_from, IsReached, data_inputs_of}
use Rattle.lid_design.specs.Elaboration.{model_nets, columns}
use Rattle.lid_check_elab.specs.Elaborations.{map_driver, column_at}
use Rattle.lid_check_elab.specs.Numbers.{offset_of, start_of}
use Rattle.lid_check_drivers.specs.Locals.{Local, local_input, local_latch, local_cover, local_connection, locals, values_of, actual_for, driver_at_path, driver_in}
use Rattle.lid_check_elab.specs.Templates.{net_place, net_by_place, placed_driver, IsSmallLocal}
use Rattle.lid_check_elab.specs.Scopes.{IsOnlyDriver}
use Rattle.lid_check_drivers.proofs.Clocking.{named_model}
use Rattle.lid_check_drivers.specs.Judged.{IsJudged}
use Rattle.lid_check_elab.proofs.Numbering.{starts_at}
use Rattle.lid_check_drivers.proofs.Names.{position_get}
use Rattle.lid_check_drivers.proofs.Wired.{Sub}
use Rattle.lid_check_drivers.proofs.Single.{IsWiredLocal, wired_input, wired_latch, wired_cover, wired_output, wired_local, of_net_among, root_driven, inst_driven, actual_net}

module _ (d : Design) (judged : IsJudged d) where
  -- a column by the place of its net
  abbrev HasNumber : ℕ → Column → Type 0
  HasNumber n c = (column_at d n ≡ c) × (n < length (columns d))

  number_of : (path : List ℕ) (k : ℕ) (m : Model) → number_from d d.root path ≡ Some k → slice_get d.models k ≡ Some m → (net : List ℕ) → Among net (nets d m) → HasNumber (start_of d path + net_place d k net) (column path net)
  number_of path k m leads here net among =
      let names : model_nets d k ≡ nets d m = ap (λ (o : Option Model). option_map_or (nets d) o []) here in
      let at = starts_at d judged path k (net_place d k net) net leads (position_get net (model_nets d k) (subst (Among net) (sym names) among)) in
      (get_or_from_slice_get (columns d) (start_of d path + net_place d k net) (column path net) (column [] []) at, slice_get_within (columns d) (start_of d path + net_place d k net) (column path net) at)

  cover_columns : (path : List ℕ) (k : ℕ) (m : Model) → number_from d d.root path ≡ Some k → slice_get d.models k ≡ Some m → (ns : List (List ℕ)) → ((n : List ℕ) → Among n ns → Among n (nets d m)) → (map (column_at d) (map (λ net. start_of d path + net) (map (net_place d k) ns)) ≡ map (column path) ns) × AllByRecursion (λ a. a < length (columns d)) (map (λ net. start_of d path + net) (map (net_place d k) ns) ++ [])
  cover_columns path k m leads here [] all = (refl, tt)
  cover_columns path k m leads here (n ∷ ns) all =
      let first = number_of path k m leads here n (all n (inl refl)) in
      let rest = cover_columns path k m leads here ns (λ n is. all n (inr is)) in (
        (let a = first.0 in let b = rest.0 in both (column_at d (start_of d path + net_place d k n)) (column path n) _ _ a b),
        (first.1, rest.1),
      )
    where
      both : (a b : Column) (cs bs : List Column) → a ≡ b → cs ≡ bs → a ∷ cs ≡ b ∷ bs
      both a b cs bs h g = cc

  -- in an instance, the place around
  pub record InInst (k : ℕ) (path : List ℕ) (start : ℕ) (actuals : List ℕ) : Type 0 where
    pub up : List ℕ
    pub i : ℕ
    pub around : ℕ
    pub body : Model
    pub inst : Inst
    pub is_path : path ≡ i ∷ up
    pub leads : number_from d d.root up ≡ Some around
    pub there : slice_get d.models around ≡ Some body
    pub at : slice_get body.insts i ≡ Some inst
    pub is_start : start ≡ start_of d up
    pub each : actuals ≡ map (λ formal. net_place d around (actual_for inst formal)) (data_inputs_of d k)

  -- the place around, where there is one
  pub data FitsAround (k : ℕ) (path : List ℕ) : Option (ℕ × List ℕ) → Type 0 where
    at_root : path ≡ [] → FitsAround k path None
    in_inst : (start : ℕ) (actuals : List ℕ) → InInst k path start actuals → FitsAround k path (Some (start, actuals))

  module _ (path : List ℕ) (k : ℕ) (m : Model) (leads : number_from d d.root path ≡ Some k) (here : slice_get d.models k ≡ Some m) (offsets : List ℕ) (offset : (i o : ℕ) → slice_get offsets i ≡ Some o → o ≡ offset_of d k i) (few : length offsets ≡ length m.insts) where
    -- a driver that reads inside the place or in its instances
    abbrev Seen : Local (List ℕ) → Driver ℕ → Type 0
    Seen l driver = (map_driver (column_at d) driver ≡ driver_at_path path l) × AllByRecursion (λ a. a < length (columns d)) (read_now driver ++ read_before driver)

    offset_here : (i : ℕ) (inst : Inst) → slice_get m.insts i ≡ Some inst → slice_index offsets i ≡ offset_of d k i
    offset_here i inst at = by (slice_get offsets i) refl
      where
        below : i < length offsets
        below = let w = slice_get_within m.insts i inst at in omega arith

        by : (o : Option ℕ) → slice_get offsets i ≡ o → slice_index offsets i ≡ offset_of d k i
        by None e = absurd (none_within offsets i below e)
          where
            none_within : (xs : List ℕ) (i : ℕ) → i < length xs → slice_get xs i ≡ None → ⊥
            none_within [] i less e = absurd (omega arith)
            none_within (x ∷ xs) zero less e = absurd (let f : Some x ≡ None = e in cc)
            none_within (x ∷ xs) (suc i) less e = none_within xs i (omega arith) e
        by (Some o) e = get_or_from_slice_get offsets i o 0 e ∙ offset i o e

    seen_latch : (first : Bool) (input : List ℕ) → Among input (nets d m) → Seen (local_latch first input) (from_latch first (start_of d path + net_place d k input))
    seen_latch first input is = let n = number_of path k m leads here input is in (ap (from_latch first) n.0, (n.1, tt))

    seen_cover : (cover : Cover) (inputs : List (List ℕ)) → ((n : List ℕ) → Among n inputs → Among n (nets d m)) → Seen (local_cover cover inputs) (from_cover cover (map (λ net. start_of d path + net) (map (net_place d k) inputs)))
    seen_cover cover inputs all = let n = cover_columns path k m leads here inputs all in (ap (from_cover cover) n.0, n.1)

    seen_output : (i : ℕ) (formal : List ℕ) (inst : Inst) → slice_get m.insts i ≡ Some inst → (sub : Sub d inst) → Among formal (nets d sub.model) → Seen (local_connection i formal) (from_connection (start_of d path + (slice_index offsets i + option_map_or (λ j. net_place d j formal) (instance_number d i k) 0)))
    unfolding start_of number_from
    seen_output i formal inst at sub is =
        let insts : insts_of d k ≡ m.insts = ap (λ (o : Option Model). option_map_or (λ m. m.insts) o []) here in
        let names : instance_number d i k ≡ Some sub.number = ap (λ (is : List Inst). option_and_then (λ inst. number_named d inst.model) (slice_get is i)) insts ∙ ap (option_and_then (λ inst. number_named d inst.model)) at ∙ sub.names in
        let inner : number_from d d.root (i ∷ path) ≡ Some sub.number = ap (option_and_then (instance_number d i)) leads ∙ names in
        let n = number_of (i ∷ path) sub.number sub.model inner sub.there formal is in
        let place : option_map_or (λ j. net_place d j formal) (instance_number d i k) 0 ≡ net_place d sub.number formal = ap (λ (o : Option ℕ). option_map_or (λ j. net_place d j formal) o 0) names in
        let start : start_of d (i ∷ path) ≡ start_of d path + offset_of d k i = ap (λ (o : Option ℕ). start_of d path + option_map_or (λ k. offset_of d k i) o 0) leads in
        let off = offset_here i inst at in
        let whole : start_of d (i ∷ path) + net_place d sub.number formal ≡ start_of d path + (slice_index offsets i + option_map_or (λ j. net_place d j formal) (instance_number d i k) 0) = omega arith in
        let moved : HasNumber (start_of d path + (slice_index offsets i + option_map_or (λ j. net_place d j formal) (instance_number d i k) 0)) (column (i ∷ path) formal) = subst (λ (x : ℕ). HasNumber x (column (i ∷ path) formal)) whole n in
        (ap from_connection moved.0, (moved.1, tt))

    reached : IsReached d k
    reached = (path, leads)

    root_case : path ≡ [] → (net : List ℕ) → Among net (nets d m) → (l : Local (List ℕ)) → values_of net (locals d m) ≡ l ∷ [] → drivers d (column path net) ≡ driver_at_path path l ∷ []
    root_case root net among l one =
        subst (λ (p : List ℕ). number_from d d.root p ≡ Some k → drivers d (column p net) ≡ driver_at_path p l ∷ []) (sym root)
        (λ leads. root_driven d judged k reached m here leads net among l one) leads

    inst_leads : (start : ℕ) (actuals : List ℕ) (w : InInst k path start actuals) → number_from d d.root (w.i ∷ w.up) ≡ Some k
    inst_leads start actuals w = ap (number_from d d.root) (sym w.is_path) ∙ leads

    inst_sub : (start : ℕ) (actuals : List ℕ) (w : InInst k path start actuals) → Sub d w.inst
    unfolding number_from
    inst_sub start actuals w =
        let insts : insts_of d w.around ≡ w.body.insts = ap (λ (o : Option Model). option_map_or (λ m. m.insts) o []) w.there in
        let names : number_named d w.inst.model ≡ Some k =
        ap (option_and_then (λ inst. number_named d inst.model)) (sym w.at)
        ∙ ap (λ (is : List Inst). option_and_then (λ inst. number_named d inst.model) (slice_get is w.i)) (sym insts)
        ∙ sym (ap (option_and_then (instance_number d w.i)) w.leads)
        ∙ inst_leads start actuals w in
        record { number = k; names = names; model = m; there = here; named = named_model d w.inst k names ∙ here; reached = reached }

    inst_case : (start : ℕ) (actuals : List ℕ) (w : InInst k path start actuals) → (net : List ℕ) → Among net (nets d m) → (l : Local (List ℕ)) → values_of net (locals d m) ≡ l ∷ [] → drivers d (column path net) ≡ driver_in w.up w.i w.inst (data_inputs d m) l ∷ []
    unfolding inst_sub
    inst_case start actuals w net among l one =
        ap (λ (p : List ℕ). drivers d (column p net)) w.is_path
        ∙ inst_driven d judged w.around (w.up, w.leads) w.body w.there w.i w.inst w.at (inst_sub start actuals w) w.up w.leads (inst_leads start actuals w) net among l one

    -- what reads inside the place or in its instances is right
    right_seen : (around : Option (ℕ × List ℕ)) → FitsAround k path around → (net : List ℕ) → Among net (nets d m) → (l : Local (List ℕ)) → values_of net (locals d m) ≡ l ∷ [] → (driver : Driver ℕ) → Seen l driver → ((up : List ℕ) (i : ℕ) (inst : Inst) → path ≡ i ∷ up → driver_in up i inst (data_inputs d m) l ≡ driver_at_path (i ∷ up) l) → IsOnlyDriver d (column path net) driver
    right_seen None (at_root root) net among l one driver seen inner =
        record { only = root_case root net among l one ∙ ap (λ (s : Driver Column). s ∷ []) (sym seen.0); below = seen.1 }
    right_seen (Some around) (in_inst start actuals w) net among l one driver seen inner =
        record {
          only = inst_case start actuals w net among l one ∙ ap (λ (s : Driver Column). s ∷ []) (inner w.up w.i w.inst w.is_path ∙ ap (λ (p : List ℕ). driver_at_path p l) (sym w.is_path) ∙ sym seen.0);
          below = seen.1;
        }

    -- an input
    right_input : (around : Option (ℕ × List ℕ)) → FitsAround k path around → (net : List ℕ) → Among net (nets d m) → (j : ℕ) → slice_get (data_inputs d m) j ≡ Some net → values_of net (locals d m) ≡ local_input j ∷ [] → IsOnlyDriver d (column path net) (placed_driver (start_of d path) offsets around (local_input j))
    unfolding inst_sub
    right_input None (at_root root) net among j input one = record { only = root_case root net among (local_input j) one; below = tt }
    right_input (Some around) (in_inst start actuals w) net among j input one =
        let inputs : data_inputs_of d k ≡ data_inputs d m = ap (λ (o : Option Model). option_map_or (data_inputs d) o []) here in
        let name : slice_index_or (data_inputs d m) j [] ≡ net = get_or_from_slice_get (data_inputs d m) j net [] input in
        let number : slice_index actuals j ≡ net_place d w.around (actual_for w.inst net) =
        get_or_from_slice_get actuals j (net_place d w.around (actual_for w.inst net)) 0
        (ap (λ (ns : List ℕ). slice_get ns j) (w.each ∙ ap (map (λ formal. net_place d w.around (actual_for w.inst formal))) inputs)
        ∙ slice_get-map (λ formal. net_place d w.around (actual_for w.inst formal)) (data_inputs d m) j
        ∙ ap (option_map (λ formal. net_place d w.around (actual_for w.inst formal))) input) in
        let is_net = actual_net d judged w.around (w.up, w.leads) w.body w.there w.i w.inst w.at (inst_sub start actuals w) net (get_among (data_inputs d m) j net input) in
        let n = number_of w.up w.around w.body w.leads w.there (actual_for w.inst net) is_net in
        let whole : start_of d w.up + net_place d w.around (actual_for w.inst net) ≡ start + slice_index actuals j = (let a = w.is_start in omega arith) in
        let moved : HasNumber (start + slice_index actuals j) (column w.up (actual_for w.inst net)) = subst (λ (x : ℕ). HasNumber x (column w.up (actual_for w.inst net))) whole n in
        record {
          only = inst_case start actuals w net among (local_input j) one ∙ ap (λ (n : List ℕ). from_connection (column w.up (actual_for w.inst n)) ∷ []) name ∙ ap (λ (c : Column). from_connection c ∷ []) (sym moved.0);
          below = (moved.1, tt);
        }

    -- what is placed for the one driver of a net is right
    pub wired_right : (around : Option (ℕ × List ℕ)) → FitsAround k path around → (net : List ℕ) → Among net (nets d m) → (l : Local (List ℕ)) → values_of net (locals d m) ≡ l ∷ [] → IsWiredLocal d judged m net l → IsOnlyDriver d (column path net) (placed_driver (start_of d path) offsets around (net_by_place d k l))
    wired_right around fits net among _ one (wired_input j input) = right_input around fits net among j input one
    wired_right None fits net among _ one (wired_latch first input is) = right_seen None fits net among (local_latch first input) one _ (seen_latch first input is) (λ up i inst e. refl)
    wired_right (Some a) fits net among _ one (wired_latch first input is) = right_seen (Some a) fits net among (local_latch first input) one _ (seen_latch first input is) (λ up i inst e. refl)
    wired_right None fits net among _ one (wired_cover cover inputs all) = right_seen None fits net among (local_cover cover inputs) one _ (seen_cover cover inputs all) (λ up i inst e. refl)
    wired_right (Some a) fits net among _ one (wired_cover cover inputs all) = right_seen (Some a) fits net among (local_cover cover inputs) one _ (seen_cover cover inputs all) (λ up i inst e. refl)
    wired_right None fits net among _ one (wired_output i formal inst at sub is) = right_seen None fits net among (local_connection i formal) one _ (seen_output i formal inst at sub is) (λ up i inst e. refl)
    wired_right (Some a) fits net among _ one (wired_output i formal inst at sub is) = right_seen (Some a) fits net among (local_connection i formal) one _ (seen_output i formal inst at sub is) (λ up i inst e. refl)

    pub net_right : (around : Option (ℕ × List ℕ)) → FitsAround k path around → (net : List ℕ) → Among net (nets d m) → (l : Local (List ℕ)) → values_of net (locals d m) ≡ l ∷ [] → IsOnlyDriver d (column path net) (placed_driver (start_of d path) offsets around (net_by_place d k l))
    net_right around fits net among l one =
        wired_right around fits net among l one (wired_local d judged k reached m here net l (of_net_among net (locals d m) l (subst (λ (ls : List (Local (List ℕ))). Among l ls) (sym one) (inl refl))))

    -- all numbers are small
    module _ (most : length (columns d) ≤ 1048576) where
      small_net : (n : List ℕ) → Among n (nets d m) → net_place d k n ≤ 1048576
      small_net n is = let h = (number_of path k m leads here n is).1 in omega arith

      small_latch : (around : Option (ℕ × List ℕ)) (first : Bool) (input : ℕ) → input ≤ 1048576 → IsSmallLocal offsets around (local_latch first input)
      small_latch None first input h = h
      small_latch (Some a) first input h = h

      small_cover : (around : Option (ℕ × List ℕ)) (cover : Cover) (inputs : List ℕ) → All (λ net. net ≤ 1048576) inputs → IsSmallLocal offsets around (local_cover cover inputs)
      small_cover None cover inputs h = h
      small_cover (Some a) cover inputs h = h

      small_inputs : (ns : List (List ℕ)) → ((n : List ℕ) → Among n ns → Among n (nets d m)) → All (λ net. net ≤ 1048576) (map (net_place d k) ns)
      small_inputs [] all i e less = absurd (omega arith)
      small_inputs (n ∷ ns) all zero e less = small_net n (all n (inl refl))
      small_inputs (n ∷ ns) all (suc i) e less = small_inputs ns (λ n is. all n (inr is)) i e (omega arith)

      small_output : (around : Option (ℕ × List ℕ)) (i net : ℕ) → i < length offsets → slice_index offsets i ≤ 1048576 → net ≤ 1048576 → IsSmallLocal offsets around (local_connection i net)
      small_output None i net a b e = (a, b, e)
      small_output (Some around) i net a b e = (a, b, e)

      small_input : (around : Option (ℕ × List ℕ)) → FitsAround k path around → (net : List ℕ) (j : ℕ) → slice_get (data_inputs d m) j ≡ Some net → IsSmallLocal offsets around (local_input j)
      unfolding inst_sub
      small_input None (at_root root) net j input = tt
      small_input (Some around) (in_inst start actuals w) net j input =
          let inputs : data_inputs_of d k ≡ data_inputs d m = ap (λ (o : Option Model). option_map_or (data_inputs d) o []) here in
          let at_j : slice_get actuals j ≡ Some (net_place d w.around (actual_for w.inst net)) =
          (ap (λ (ns : List ℕ). slice_get ns j) (w.each ∙ ap (map (λ formal. net_place d w.around (actual_for w.inst formal))) inputs)
          ∙ slice_get-map (λ formal. net_place d w.around (actual_for w.inst formal)) (data_inputs d m) j
          ∙ ap (option_map (λ formal. net_place d w.around (actual_for w.inst formal))) input) in
          let number : slice_index actuals j ≡ net_place d w.around (actual_for w.inst net) = get_or_from_slice_get actuals j (net_place d w.around (actual_for w.inst net)) 0 at_j in
          let is_net = actual_net d judged w.around (w.up, w.leads) w.body w.there w.i w.inst w.at (inst_sub start actuals w) net (get_among (data_inputs d m) j net input) in
          let n = (number_of w.up w.around w.body w.leads w.there (actual_for w.inst net) is_net).1 in
          let first = w.is_start in
          let a : start ≤ 1048576 = omega arith in
          let b : slice_index actuals j ≤ 1048576 = omega arith in
          (a, slice_get_within actuals j (net_place d w.around (actual_for w.inst net)) at_j, b)

      small_wired : (around : Option (ℕ × List ℕ)) → FitsAround k path around → (net : List ℕ) (l : Local (List ℕ)) → IsWiredLocal d judged m net l → IsSmallLocal offsets around (net_by_place d k l)
      unfolding start_of number_from
      small_wired around fits net _ (wired_input j input) = small_input around fits net j input
      small_wired around fits net _ (wired_latch first input is) = small_latch around first (net_place d k input) (small_net input is)
      small_wired around fits net _ (wired_cover cover inputs all) = small_cover around cover (map (net_place d k) inputs) (small_inputs inputs all)
      small_wired around fits net _ (wired_output i formal inst at sub is) =
          let seen = (seen_output i formal inst at sub is).1.0 in
          let below : i < length offsets = (let w = slice_get_within m.insts i inst at in omega arith) in
          small_output around i (option_map_or (λ j. net_place d j formal) (instance_number d i k) 0) below (omega arith) (omega arith)

      pub net_small : (around : Option (ℕ × List ℕ)) → FitsAround k path around → (net : List ℕ) (l : Local (List ℕ)) → values_of net (locals d m) ≡ l ∷ [] → IsSmallLocal offsets around (net_by_place d k l)
      net_small around fits net l one = small_wired around fits net l (wired_local d judged k reached m here net l (of_net_among net (locals d m) l (subst (λ (ls : List (Local (List ℕ))). Among l ls) (sym one) (inl refl))))
