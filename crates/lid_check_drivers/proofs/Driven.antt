-- A driven column is one of a net of its model, and no net is driven twice.
use Rattle.std.proofs.Common.{◌≡◌, ◌⊎◌, ℕ, ◌+◌, ◌<◌, ◌≤◌, Bool, true, false, not, cond, List, [], ◌∷◌, ◌++◌, length, map, filter, Option, Some, None, option_and_then, slice_get, inl, inr, refl, sym, ◌∙◌, ap, subst, arith, length-append}
use Rattle.std.specs.Option.{option_map_or}
use Rattle.std.specs.List.{AllByRecursion, IsDistinct, flat_map, count_by, enumerate_from}
use Rattle.std.specs.Str.{bytes_eq}
use Rattle.std.proofs.lemmas.Bool.{ltb-false}
use Rattle.std.proofs.lemmas.List.{length-map}
use Rattle.lid_base.specs.Lists.{Among}
use Rattle.lid_base.proofs.Lists.{among_right, among_append, filter_among, map_among, among_flat, flat_among, bytes_same, then_some}
use Rattle.lid_design.specs.declared.Design.{Design}
use Rattle.lid_design.specs.declared.Model.{Model}
use Rattle.lid_design.specs.declared.Cell.{Cell}
use Rattle.lid_design.specs.declared.Cell.TheVariants.{Names, Latch}
use Rattle.lid_design.specs.declared.Inst.{Inst}
use Rattle.lid_design.specs.Network.{Driver}
use Rattle.lid_design.specs.Columns.{Column, is_among, model_named, model_at, is_clock, data_inputs, cell_at, output_at, actuals_of, port_at, drivers_in, drivers}
use Rattle.lid_design.specs.Walks.{IsDriven}
use Rattle.lid_design.specs.Models.{firsts, nets, port_drivers, inner_drivers, driver_names, driven_by, actuals_bound_to, cell_out, control_names, number_from, IsReached}
use Rattle.lid_check_names.proofs.Lists.{count_append}
use Rattle.lid_check_hierarchy.proofs.Numbers.{firsts_distinct}
use Rattle.lid_check_drivers.specs.Judged.{IsJudged}
use Rattle.lid_check_drivers.specs.Locals.{inputs_from, inner_locals, locals, values_of, driver_at_path}
use Rattle.lid_check_drivers.proofs.Names.{to_among, count-cons, count_none}
use Rattle.lid_check_drivers.proofs.Clocking.{model_at_number}
use Rattle.lid_check_drivers.proofs.Locals.{net_of, of_net_count, locals_named, inner_named, inputs_named, inputs_seen}
use Rattle.lid_check_drivers.proofs.Wired.{Spot, spot_input, spot_cell, spot_bind, occurs, among_bound, sound, net_from}
use Rattle.lid_check_drivers.proofs.Single.{drivers_at, inputs_fewer}
use Rattle.lid_base.proofs.Sums.{count_here}

-- what cells and instances drive has a place
pub inner_spot : (d : Design) (m : Model) (net : List ℕ) → Among net (inner_drivers d m) → Spot m net
inner_spot d m net among = by (among_append net (map cell_out m.cells) (flat_map (driven_by d) m.insts) among)
  where
    of_cell : (cell : Cell) → Among cell m.cells → net ≡ cell_out cell → Spot m net
    of_cell (Names inputs out cover) is eq = spot_cell (Names inputs out cover) is (among_right net inputs (out ∷ []) (inl eq))
    of_cell (Latch input out kind control init) is eq = spot_cell (Latch input out kind control init) is (inr (among_right net (control_names control) (out ∷ []) (inl eq)))

    of_inst : (inst : Inst) → Among inst m.insts → (o : Option Model) → Among net (option_map_or (λ m. actuals_bound_to m.outputs inst.binds) o []) → Spot m net
    of_inst inst is None none = absurd none
    of_inst inst is (Some sub) bound = let found = among_bound sub.outputs inst.binds net bound in spot_bind inst found.0 is found.1 found.3

    by : Among net (map cell_out m.cells) ⊎ Among net (flat_map (driven_by d) m.insts) → Spot m net
    by (inl cells) = let found = map_among cell_out net m.cells cells in of_cell found.0 found.1 found.2
    by (inr insts) = let found = flat_among (driven_by d) net m.insts insts in of_inst found.0 found.1 (model_named d found.0.model) found.2

counted : (net : List ℕ) (names : List (List ℕ)) → 0 < count_by (bytes_eq net) names → is_among net names ≡ true
counted net names some = by (is_among net names) refl
  where
    by : (b : Bool) → is_among net names ≡ b → b ≡ true
    by true e = refl
    by false e = absurd (let none = count_none net names e in omega arith)

apart : (x : List ℕ) (xs : List (List ℕ)) → count_by (bytes_eq x) xs ≤ 0 → AllByRecursion (λ y. bytes_eq x y ≡ false) xs
apart x [] few = tt
apart x (y ∷ ys) few = by (bytes_eq x y) refl (count-cons x y ys) (apart x ys)
  where
    by : (b : Bool) → bytes_eq x y ≡ b → count_by (bytes_eq x) (y ∷ ys) ≡ cond b 1 0 + count_by (bytes_eq x) ys → (count_by (bytes_eq x) ys ≤ 0 → AllByRecursion (λ y. bytes_eq x y ≡ false) ys) → (bytes_eq x y ≡ false) × AllByRecursion (λ y. bytes_eq x y ≡ false) ys
    by true e count next = absurd (omega arith)
    by false e count next = (e, next (omega arith))

-- no name stands in a list twice
abbrev pub IsOnce : List (List ℕ) → Type 0
IsOnce xs = (x : List ℕ) → Among x xs → count_by (bytes_eq x) xs ≤ 1

once_distinct : (xs : List (List ℕ)) → IsOnce xs → IsDistinct bytes_eq xs
unfolding IsDistinct
once_distinct [] once = tt
once_distinct (x ∷ xs) once = (
  apart x xs (let e = once x (inl refl) in let f = count_here x xs in omega arith),
  once_distinct xs (λ y is. let e = once y (inr is) in let f = count-cons y x xs in omega arith),
)

-- such names are their own first places
pub once_firsts : (xs : List (List ℕ)) → IsOnce xs → firsts xs ≡ xs
once_firsts xs once = firsts_distinct xs (once_distinct xs once)

pub among_of_net : {V : Type 0} (net : List ℕ) (ps : List (List ℕ × V)) (p : List ℕ × V) → Among p ps → p.0 ≡ net → Among p.1 (values_of net ps)
among_of_net {V} net ps p is same =
    among_flat (λ q. cond (bytes_eq q.0 net) (q.1 ∷ []) []) p p.1 ps is (subst (λ (b : Bool). Among p.1 (cond b (p.1 ∷ []) [])) (sym (bytes_same p.0 net same)) (inl refl))

module _ (d : Design) (judged : IsJudged d) where
  module _ (k : ℕ) (reached : IsReached d k) (m : Model) (here : slice_get d.models k ≡ Some m) where
    -- no port drives what is no input
    port_none : (path net : List ℕ) → is_among net m.inputs ≡ false → length (port_at d m path net) ≡ 0
    port_none [] net none =
        let inputs = inputs_from 0 (data_inputs d m) in
        let whole : length (port_at d m [] net) ≡ count_by (bytes_eq net) (data_inputs d m) =
        ap length (inputs_seen net 0 (data_inputs d m)) ∙ length-map (values_of net inputs) (driver_at_path []) ∙ of_net_count net inputs ∙ ap (count_by (bytes_eq net)) (inputs_named 0 (data_inputs d m)) in
        let fewer = inputs_fewer d m net in
        let empty = count_none net m.inputs none in
        omega arith
    port_none (i ∷ path) net none = ap (λ (b : Bool). length (cond b (option_map_or (actuals_of path net) (option_and_then (λ (m : Model). slice_get m.insts i) (model_at d path)) []) [])) none

    driven_spot : (path net : List ℕ) → 0 < length (port_at d m path net ++ map (driver_at_path path) (values_of net (inner_locals d m))) → Spot m net
    driven_spot path net some = by (is_among net m.inputs) refl
      where
        by : (b : Bool) → is_among net m.inputs ≡ b → Spot m net
        by true e = spot_input (to_among net m.inputs e)
        by false e =
            let port = port_none path net e in
            let both = length-append (port_at d m path net) (map (driver_at_path path) (values_of net (inner_locals d m))) in
            let inner : length (map (driver_at_path path) (values_of net (inner_locals d m))) ≡ count_by (bytes_eq net) (inner_drivers d m) =
            length-map (values_of net (inner_locals d m)) (driver_at_path path) ∙ of_net_count net (inner_locals d m) ∙ ap (count_by (bytes_eq net)) (inner_named d m) in
            let least : 0 < count_by (bytes_eq net) (inner_drivers d m) = omega arith in
            inner_spot d m net (to_among net (inner_drivers d m) (counted net (inner_drivers d m) least))

    input_spot : (net : List ℕ) → Among net (data_inputs d m) → Spot m net
    unfolding data_inputs
    input_spot net is = spot_input (filter_among (λ net. not (is_clock d m net)) net m.inputs is).0

    -- a driven net is named in the model
    named_spot : (net : List ℕ) → Among net (data_inputs d m ++ inner_drivers d m) → Spot m net
    named_spot net is = by (among_append net (data_inputs d m) (inner_drivers d m) is)
      where
        by : Among net (data_inputs d m) ⊎ Among net (inner_drivers d m) → Spot m net
        by (inl input) = input_spot net input
        by (inr rest) = inner_spot d m net rest

    -- no net stands twice among the driven nets
    pub driven_once : IsOnce (map net_of (locals d m))
    unfolding driver_names
    driven_once net is =
        let names = locals_named d m in
        let spot = occurs m net (named_spot net (subst (Among net) names is)) in
        let once = ltb-false 1 (count_by (bytes_eq net) (port_drivers m ++ inner_drivers d m)) ((sound d judged k reached m here).once net spot) in
        let total : count_by (bytes_eq net) (map net_of (locals d m)) ≡ count_by (bytes_eq net) (data_inputs d m) + count_by (bytes_eq net) (inner_drivers d m) = ap (count_by (bytes_eq net)) names ∙ count_append net (data_inputs d m) (inner_drivers d m) in
        let a = count_append net (port_drivers m) (inner_drivers d m) in
        let b = count_append net m.inputs (filter (λ net. not (is_among net m.inputs)) m.clocks) in
        let e = inputs_fewer d m net in
        omega arith

  -- where a driven column stands: at a net of the model that its path leads to
  pub record NetAt (c : Column) : Type 0 where
    pub number : ℕ
    pub leads : number_from d d.root c.path ≡ Some number
    pub model : Model
    pub here : slice_get d.models number ≡ Some model
    pub net : Among c.net (nets d model)

  pub driven_at : (c : Column) → IsDriven (drivers d) c → NetAt c
  unfolding drivers
  driven_at c some = at_model (model_at d c.path) refl
    where
      at_model : (o : Option Model) → model_at d c.path ≡ o → NetAt c
      at_model None e = absurd (let none : length (option_map_or (drivers_in d c.path c.net) (model_at d c.path) []) ≡ 0 = ap (λ (o : Option Model). length (option_map_or (drivers_in d c.path c.net) o [])) e in omega arith)
      at_model (Some m) e = by (is_clock d m c.net) refl
        where
          found : (k : ℕ) × (number_from d d.root c.path ≡ Some k) × (slice_get d.models k ≡ Some m)
          found = then_some (number_from d d.root c.path) (slice_get d.models) m (sym (model_at_number d c.path) ∙ e)

          by : (b : Bool) → is_clock d m c.net ≡ b → NetAt c
          by true clock = absurd (let none : length (option_map_or (drivers_in d c.path c.net) (model_at d c.path) []) ≡ 0 = ap (λ (o : Option Model). length (option_map_or (drivers_in d c.path c.net) o [])) e ∙ ap (λ (b : Bool). length (cond b [] ((port_at d m c.path c.net ++ flat_map (cell_at c.path c.net) m.cells) ++ flat_map (output_at d c.path c.net) (enumerate_from 0 m.insts)))) clock in omega arith)
          by false free =
              let whole = drivers_at d judged found.0 (c.path, found.1) m found.2 c.path found.1 c.net free in
              let least : 0 < length (port_at d m c.path c.net ++ map (driver_at_path c.path) (values_of c.net (inner_locals d m))) = subst (λ (ss : List (Driver Column)). 0 < length ss) whole some in
              let spot = driven_spot found.0 (c.path, found.1) m found.2 c.path c.net least in
              record { number = found.0; leads = found.1; model = m; here = found.2; net = net_from d judged found.0 (c.path, found.1) m found.2 c.net spot free }
