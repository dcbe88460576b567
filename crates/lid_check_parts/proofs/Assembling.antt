-- The columns of a pearl as a part of the network.
use Rattle.std.proofs.Common.{◌≡◌, ◌⊎◌, ℕ, ◌+◌, ◌<◌, ◌≤◌, List, [], ◌∷◌, ◌++◌, length, map, Option, Some, option_and_then, option_map, slice_get, inl, inr, refl, sym, ◌∙◌, ap, subst, arith}
use Rattle.std.specs.Option.{option_map_or}
use Rattle.std.specs.List.{AllByRecursion}
use Rattle.std.proofs.lemmas.List.{length-map}
use Rattle.std.proofs.lemmas.Option.{slice_get_within, slice_get-get_or, slice_get-map}
use Rattle.lid_base.specs.Lists.{Among}
use Rattle.lid_base.proofs.Lists.{among_left, among_append, among_map, get_among, among_get, all_among}
use Rattle.lid_design.specs.declared.Design.{Design}
use Rattle.lid_design.specs.declared.Model.{Model}
use Rattle.lid_design.specs.Network.{Driver, from_input, from_latch, from_cover, from_connection}
use Rattle.lid_design.specs.Columns.{Column, column, model_at, data_inputs, drivers}
use Rattle.lid_design.specs.Walks.{read_before}
use Rattle.lid_design.specs.Feeds.{read_now}
use Rattle.lid_design.specs.Models.{number_from, data_inputs_of, IsReached}
use Rattle.lid_design.specs.Elaboration.{columns}
use Rattle.lid_design.specs.Loops.{pearls, IsInside}
use Rattle.lid_check_hierarchy.proofs.Walks.{reached_below}
use Rattle.lid_check_drivers.specs.Judged.{IsJudged}
use Rattle.lid_check_drivers.proofs.Clocking.{model_at_number}
use Rattle.lid_check_elab.specs.declared.driver.ColumnDriver.{ColumnDriver}
use Rattle.lid_check_elab.specs.declared.driver.ColumnDriver.TheVariants.{Input, Latch, Cover as OfCover, Connection}
use Rattle.lid_check_elab.specs.Numbers.{size_of, start_of, columns_in, StandsInList}
use Rattle.lid_check_elab.specs.Elaborations.{shown_driver, map_driver, column_at, IsElaborated}
use Rattle.lid_check_elab.proofs.Numbering.{numbering, stands_get, columns_length}
use Rattle.lid_check_elab.proofs.Located.{located}
use Rattle.lid_check_parts.specs.declared.part.PearlPart.{PearlPart}
use Rattle.lid_check_parts.specs.Standing.{IsInput}
use Rattle.lid_check_parts.specs.Parts.{driver_at, IsIn, StaysIn, IsNetworkPart}
use Rattle.lid_check_parts.proofs.Rules.{numbers_of}
use Rattle.lid_check_parts.specs.PearlParts.{outputs_of, ArePortsApart, IsPearlPart}
use Rattle.lid_check_parts.proofs.Inside.{column_inside, number_inside}
use Rattle.lid_check_parts.proofs.Reading.{IsOuter, IsNear, driver_near}
use Rattle.lid_check_parts.proofs.Columns.{stands_few}
use Rattle.lid_check_parts.proofs.Beginning.{nets_begin, ports_begin}
use Rattle.lid_base.proofs.Places.{item_at}
use Rattle.lid_base.proofs.Alls.{all_from_among}

numbers_read : (d : Design) (s : ColumnDriver) (a : ℕ) → Among a (numbers_of s) → Among a (read_now (shown_driver d s) ++ read_before (shown_driver d s))
numbers_read d (Input place) a none = absurd none
numbers_read d (Latch first input) a among = among
numbers_read d (OfCover model cell inputs) a among = among_left a inputs [] among
numbers_read d (Connection other) a among = among

read_mapped : {A B : Type 0} (f : A → B) (s : Driver A) (a : A) → Among a (read_now s ++ read_before s) → Among (f a) (read_now (map_driver f s) ++ read_before (map_driver f s))
read_mapped f (from_input j) a none = absurd none
read_mapped f (from_latch first input) a (inl e) = inl (ap f e)
read_mapped f (from_latch first input) a (inr none) = absurd none
read_mapped f (from_cover cover inputs) a among = elim (among_append a inputs [] among) [
  | inl here ↦ among_left (f a) (map f inputs) [] (among_map f a inputs here)
  | inr none ↦ absurd none
]
read_mapped f (from_connection other) a (inl e) = inl (ap f e)
read_mapped f (from_connection other) a (inr none) = absurd none

stays_by : (d : Design) (part : PearlPart) (s : ColumnDriver) → (IsInput (map_driver (column_at d) (shown_driver d s)) → ⊥) → ((a : ℕ) → Among a (numbers_of s) → IsIn part a) → StaysIn part s
stays_by d part (Input place) cell each = absurd (cell tt)
stays_by d part (Latch first input) cell each = each input (inl refl)
stays_by d part (OfCover model cell inputs) not_input each = all_from_among (IsIn part) inputs each
stays_by d part (Connection other) cell each = each other (inl refl)

none_outside : (inner path : List ℕ) → [] ≡ inner ++ path → [] ≡ path
none_outside [] path e = e
none_outside (x ∷ inner) path e = absurd (let f : [] ≡ x ∷ (inner ++ path) = e in cc)

module _ (d : Design) (judged : IsJudged d) (drivers_of : List ColumnDriver) (starts : List ℕ) (is : IsElaborated d (map (shown_driver d) drivers_of) starts) (apart : ArePortsApart d)
    (p : ℕ) (path : List ℕ) (pearl : slice_get (pearls d) p ≡ Some path) (k : ℕ) (leads : number_from d d.root path ≡ Some k)
    (part : PearlPart) (stands : StandsInList (columns d) part.start (columns_in (length d.models) d path k)) (long : length (columns_in (length d.models) d path k) ≡ part.nets)
    (inputs : part.inputs ≡ length (data_inputs_of d k)) (outputs : part.outputs ≡ length (outputs_of d k)) where
  reached : IsReached d k
  reached = (path, leads)

  abbrev own : List Column
  own = columns_in (length d.models) d path k

  model : (m : Model) × (slice_get d.models k ≡ Some m)
  model = item_at d.models k (reached_below d judged.formed k reached)

  abbrev m : Model
  m = model.0

  body : model_at d path ≡ Some m
  body = model_at_number d path ∙ ap (option_and_then (slice_get d.models)) leads ∙ model.1

  data_are : data_inputs_of d k ≡ data_inputs d m
  data_are = ap (λ (o : Option Model). option_map_or (data_inputs d) o []) model.1

  outputs_are : outputs_of d k ≡ m.outputs
  outputs_are = ap (λ (o : Option Model). option_map_or (λ (x : Model). x.outputs) o []) model.1

  begin : (more : List Column) × (own ≡ map (column path) (data_inputs d m) ++ (map (column path) m.outputs ++ more))
  begin =
      let nets = nets_begin d judged k reached m model.1 (λ net here there. apart p path net m pearl body here there) in
      ports_begin d (length d.models) path k (data_inputs d m) m.outputs nets.0 nets.1

  -- the outputs stand behind the data inputs
  outs_stand : StandsInList own (length (map (column path) (data_inputs d m))) (map (column path) m.outputs)
  outs_stand = record { before = map (column path) (data_inputs d m); after = begin.0; parts = begin.1; long = refl }

  pub ports_few : part.inputs + part.outputs ≤ part.nets
  ports_few =
      let few = stands_few own (length (map (column path) (data_inputs d m))) (map (column path) m.outputs) outs_stand in
      let ins : part.inputs ≡ length (map (column path) (data_inputs d m)) = inputs ∙ ap length data_are ∙ sym (length-map (data_inputs d m) (column path)) in
      let outs : part.outputs ≡ length (map (column path) m.outputs) = outputs ∙ ap length outputs_are ∙ sym (length-map m.outputs (column path)) in
      omega arith

  there : part.start + part.nets ≤ length drivers_of
  there =
      let few = stands_few (columns d) part.start own stands in
      let all = is.whole in
      let drivers_long = length-map drivers_of (shown_driver d) in
      omega arith

  at_start : 0 < part.nets → start_of d path ≡ part.start
  at_start some =
      let c = item_at own 0 (omega arith) in
      let here = stands_get (columns d) part.start own stands 0 c.0 c.1 in
      let there = stands_get (columns d) (start_of d path) own (numbering d judged path k leads) 0 c.0 c.1 in
      let same = is.once (start_of d path + 0) (part.start + 0) c.0 there here in
      omega arith

  size : size_of d k ≡ part.nets
  unfolding size_of
  size = sym (columns_length d (length d.models) path k) ∙ long

  -- the number of a column inside the pearl is one of the part
  in_part : 0 < part.nets → (a : ℕ) (c : Column) → slice_get (columns d) a ≡ Some c → IsInside path c.path → IsIn part a
  in_part some a c here inside =
      let at = number_inside d judged path k leads a c here inside in
      let start = at_start some in
      let nets = size in
      let low = at.0 in
      let high = at.1 in
      record { first = omega arith; last = omega arith }

  module _ (n : ℕ) (past : part.inputs ≤ n) (h : n < part.nets) where
    at : (c : Column) × (slice_get own n ≡ Some c)
    at = item_at own n (omega arith)

    abbrev c : Column
    c = at.0

    here : slice_get (columns d) (part.start + n) ≡ Some c
    here = stands_get (columns d) part.start own stands n c at.1

    abbrev s : ColumnDriver
    s = driver_at drivers_of (part.start + n)

    abbrev r : Driver Column
    r = map_driver (column_at d) (shown_driver d s)

    shown_here : slice_get (map (shown_driver d) drivers_of) (part.start + n) ≡ Some (shown_driver d s)
    shown_here = slice_get-map (shown_driver d) drivers_of (part.start + n) ∙ ap (option_map (shown_driver d)) (slice_get-get_or drivers_of (part.start + n) (Input 0) (let t = there in omega arith))

    driven : (drivers d c ≡ r ∷ []) × AllByRecursion (λ a. a < length (map (shown_driver d) drivers_of)) (read_now (shown_driver d s) ++ read_before (shown_driver d s))
    driven =
        let by = is.each (part.start + n) c here in
        let e : Some by.driver ≡ Some (shown_driver d s) = sym by.here ∙ shown_here in
        let same : by.driver ≡ shown_driver d s = cc in (
          by.only ∙ ap (λ (x : Driver ℕ). map_driver (column_at d) x ∷ []) same,
          subst (λ (x : Driver ℕ). AllByRecursion (λ a. a < length (map (shown_driver d) drivers_of)) (read_now x ++ read_before x)) same by.below,
        )

    inside : IsInside path c.path
    inside = column_inside d (length d.models) path k c (get_among own n c at.1)

    place : (j : ℕ) × (number_from d d.root c.path ≡ Some j)
    place = let l = located d judged (part.start + n) c here in (l.model, l.leads)

    around : (x : Model) × (model_at d c.path ≡ Some x)
    around =
        let found = item_at d.models place.0 (reached_below d judged.formed place.0 (c.path, place.1)) in
        (found.0, model_at_number d c.path ∙ ap (option_and_then (slice_get d.models)) place.1 ∙ found.1)

    -- the column is that of no data input of the pearl
    not_given : c.path ≡ path → Among c.net (data_inputs d around.0) → ⊥
    not_given same among =
        let e : Some around.0 ≡ Some m = sym around.1 ∙ ap (model_at d) same ∙ body in
        let model_same : around.0 ≡ m = cc in
        let given = among_get (map (column path) (data_inputs d m)) (column path c.net) (among_map (column path) c.net (data_inputs d m) (subst (λ (x : Model). Among c.net (data_inputs d x)) model_same among)) in
        let few = slice_get_within (map (column path) (data_inputs d m)) given.0 (column path c.net) given.1 in
        let ports : StandsInList own 0 (map (column path) (data_inputs d m)) = record { before = []; after = map (column path) m.outputs ++ begin.0; parts = begin.1; long = refl } in
        let first : slice_get own given.0 ≡ Some (column path c.net) = (let e : given.0 ≡ 0 + given.0 = omega arith in ap (slice_get own) e) ∙ stands_get own 0 (map (column path) (data_inputs d m)) ports given.0 (column path c.net) given.1 in
        let number = stands_get (columns d) part.start own stands given.0 (column path c.net) first in
        let is_c : column path c.net ≡ c = ap (λ (q : List ℕ). column q c.net) (sym same) in
        let equal = is.once (part.start + given.0) (part.start + n) c (number ∙ ap Some is_c) here in
        let many : part.inputs ≡ length (map (column path) (data_inputs d m)) = inputs ∙ ap length data_are ∙ sym (length-map (data_inputs d m) (column path)) in
        omega arith

    abbrev StaysInside : Type 0
    StaysInside = (IsInput r → ⊥) × ((a : Column) → Among a (read_now r ++ read_before r) → IsInside path a.path)

    outer_stays : Among c.net (data_inputs d around.0) → IsOuter c.path r → (inner : List ℕ) → c.path ≡ inner ++ path → StaysInside
    outer_stays among outer [] e = absurd (not_given e among)
    outer_stays among outer (x ∷ inner) e =
        let both : outer.i ∷ outer.up ≡ x ∷ (inner ++ path) = sym outer.inner ∙ e in
        let up : outer.up ≡ inner ++ path = cc in
        (outer.cell, λ a read. (inner, outer.near a read ∙ up))

    near_stays : IsNear d around.0 c.path c.net r → StaysInside
    near_stays (inl (among, inl outer)) = outer_stays among outer inside.0 inside.1
    near_stays (inl (among, inr root)) = absurd (not_given (root ∙ none_outside inside.0 path (sym root ∙ inside.1)) among)
    near_stays (inr local) = (local.cell, λ a read. near a (local.near a read))
      where
        near : (a : Column) → (a.path ≡ c.path) ⊎ ((j : ℕ) × (a.path ≡ j ∷ c.path)) → IsInside path a.path
        near a (inl same) = (inside.0, same ∙ inside.1)
        near a (inr (j, deeper)) = (j ∷ inside.0, deeper ∙ ap (λ (q : List ℕ). j ∷ q) inside.1)

    all_inside : StaysInside
    all_inside = near_stays (driver_near d c.path c.net around.0 around.1 r (subst (λ (ss : List (Driver Column)). Among r ss) (sym driven.0) (inl refl)))

    pub stays : StaysIn part s
    stays = stays_by d part s all_inside.0 each
      where
        each : (a : ℕ) → Among a (numbers_of s) → IsIn part a
        each a among =
            let read = numbers_read d s a among in
            let below = all_among (λ (x : ℕ). x < length (map (shown_driver d) drivers_of)) (read_now (shown_driver d s) ++ read_before (shown_driver d s)) a driven.1 read in
            let whole = is.whole in
            let column_here = slice_get-get_or (columns d) a (column [] []) (omega arith) in
            in_part (omega arith) a (column_at d a) column_here (all_inside.1 (column_at d a) (read_mapped (column_at d) (shown_driver d s) a read))

  pub is_pearl_part : IsPearlPart d p part × IsNetworkPart drivers_of part
  is_pearl_part = (
    record {
      of = record { path = path; here = pearl; number = k; leads = leads; model = m; body = body };
      stands = stands;
      long = long;
      more = begin.0;
      begins = begin.1;
      inputs = inputs ∙ ap length data_are;
      outputs = outputs ∙ ap length outputs_are;
    },
    record { ports = ports_few; there = there; inner = stays },
  )
