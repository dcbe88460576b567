-- The flat part of a pearl of an accepted design.
use Rattle.std.proofs.Common.{◌≡◌, ◌⊎◌, ℕ, zero, suc, ◌+◌, ◌<◌, ◌≤◌, List, [], ◌∷◌, length, map, Some, option_map, slice_get, inl, inr, refl, sym, ◌∙◌, ap, subst, arith}
use Rattle.std.specs.Prelude.{slice_index_or}
use Rattle.std.specs.List.{AllByRecursion, range_with_len}
use Rattle.std.proofs.lemmas.Bool.{cases_lt}
use Rattle.std.proofs.lemmas.List.{length-map}
use Rattle.std.proofs.lemmas.Option.{slice_get_within, slice_get-get_or, slice_get-map, get_or_from_slice_get}
use Rattle.lid_base.specs.Lists.{Among}
use Rattle.lid_base.proofs.Lists.{among_map, get_among, among_get, map_twice, among_one}
use Rattle.lid_design.specs.declared.Design.{Design}
use Rattle.lid_design.specs.declared.Flat.{Flat}
use Rattle.lid_design.specs.Network.{Driver, from_input, from_latch, from_cover, from_connection}
use Rattle.lid_design.specs.Columns.{Column, column, data_inputs, drivers}
use Rattle.lid_design.specs.WellFormed.{IsWellFormed}
use Rattle.lid_design.specs.Feeds.{read_now, Feeds, EdgesLead}
use Rattle.lid_design.specs.Elaboration.{columns}
use Rattle.lid_design.specs.Loops.{pearls, IsInside, WalkInside}
use Rattle.lid_design.specs.Flat.{flat_drivers, IsFlat}
use Rattle.lid_check_digraph.specs.Graphs.{HasNoLoop, IsOrder}
use Rattle.lid_check_digraph.proofs.Orders.{order_has_none}
use Rattle.lid_check_elab.specs.declared.driver.ColumnDriver.{ColumnDriver}
use Rattle.lid_check_elab.specs.declared.driver.ColumnDriver.TheVariants.{Input, Latch, Cover as OfCover, Connection}
use Rattle.lid_check_elab.specs.Numbers.{columns_in}
use Rattle.lid_check_elab.specs.Elaborations.{driver_reads, shown_driver, map_driver, column_at, IsElaborated}
use Rattle.lid_check_parts.specs.declared.part.PearlPart.{PearlPart}
use Rattle.lid_check_parts.specs.Standing.{IsInput, StandsFor, StandsForAll}
use Rattle.lid_check_parts.specs.Parts.{driver_at, HasCover, IsNetworkPart, IsFlattened}
use Rattle.lid_check_parts.specs.PearlParts.{ArePortsApart, IsPearlPart}
use Rattle.lid_check_parts.proofs.Inside.{column_inside}
use Rattle.lid_check_parts.proofs.Columns.{col as col_of, own_at, input_at, output_at, all_are, ins_are, outs_are}
use Rattle.lid_check_loops.specs.Dependence.{HasNoDependence}
use Rattle.lid_check.specs.declared.judging.Facts.{Facts}
use Rattle.lid_check.specs.Facts.{AreFacts}
use Rattle.lid_check.specs.Flats.{IsFlatOf}
use Rattle.lid_check.proofs.Covered.{IsCovered, all_covered}
use Rattle.lid_check_loops.proofs.Numbered.{reads_shown}
use Rattle.lid_base.proofs.Places.{item_at}
use Rattle.lid_base.proofs.Alls.{all_from_among}

-- no data input of a pearl is an output where no output depends on an input
pub ports_apart : (d : Design) → HasNoDependence d → ArePortsApart d
ports_apart d none p path net m pearl model given out =
    let input = among_get (data_inputs d m) net given in
    let output = among_get m.outputs net out in
    none p output.0 input.0 m net net (record { path = path; pearl = pearl; model = model; out = output.1; given = input.1; walk = (0, (refl, ([], refl))) })

range_among : (a n k : ℕ) → Among k (range_with_len a n) → (a ≤ k) × (k < a + n)
range_among a zero k none = absurd none
range_among a (suc n) k (inl here) = (omega arith, omega arith)
range_among a (suc n) k (inr later) = let at = range_among (a + 1) n k later in let low = at.0 in let high = at.1 in (omega arith, omega arith)

-- what stands for a driver of numbers stands for it by the columns of these
stands_on : {C : Type 0} (g : ℕ → ℕ) (h : ℕ → C) (s r : Driver ℕ) → StandsFor g s r → StandsFor (λ k. h (g k)) s (map_driver h r)
stands_on g h (from_input j) r none = absurd none
stands_on g h (from_latch first k) r is = ap (map_driver h) is
stands_on g h (from_cover cover ks) r (inl is) = inl (ap (map_driver h) is ∙ ap (from_cover cover) (map_twice h g ks))
stands_on g h (from_cover cover ks) r (inr (k, one, passes, is)) = inr (k, one, passes, ap (map_driver h) is)
stands_on g h (from_connection k) r none = absurd none

-- what a driver of a net reads stands for what the driver of its column reads
read_on : {C : Type 0} (col : ℕ → C) (s : Driver ℕ) (r : Driver C) (b : ℕ) → StandsFor col s r → Among b (read_now s) → Among (col b) (read_now r)
read_on col (from_input j) r b none read = absurd none
read_on col (from_latch first k) r b is none = absurd none
read_on {C} col (from_cover cover ks) r b (inl is) read = subst (λ (x : Driver C). Among (col b) (read_now x)) (sym is) (among_map col b ks read)
read_on {C} col (from_cover cover ks) r b (inr (k, one, passes, is)) read = by (subst (λ (xs : List ℕ). Among b xs) one read)
  where
    by : (b ≡ k) ⊎ ⊥ → Among (col b) (read_now r)
    by (inl same) = subst (λ (x : Driver C). Among (col b) (read_now x)) (sym is) (inl (ap col same))
    by (inr none) = absurd none
read_on col (from_connection k) r b none read = absurd none

no_read : {C : Type 0} (s : Driver C) (b : C) → IsInput s → Among b (read_now s) → ⊥
no_read (from_input j) b is none = none
no_read (from_latch first k) b none read = none
no_read (from_cover cover ks) b none read = none
no_read (from_connection k) b none read = none

module _ (d : Design) (list : List ColumnDriver) (starts : List ℕ) (is : IsElaborated d (map (shown_driver d) list) starts) where
  covered : (s : ColumnDriver) → IsCovered (map_driver (column_at d) (shown_driver d s)) → HasCover d s
  covered (Input place) h = tt
  covered (Latch first input) h = tt
  covered (OfCover model cell inputs) h = (h.0, h.1 ∙ length-map inputs (column_at d))
  covered (Connection other) h = tt

  -- the driver of a number
  pub driven : (n : ℕ) → n < length list → drivers d (column_at d n) ≡ map_driver (column_at d) (shown_driver d (driver_at list n)) ∷ []
  driven n h =
      let whole = is.whole in
      let long = length-map list (shown_driver d) in
      let by = is.each n (column_at d n) (slice_get-get_or (columns d) n (column [] []) (omega arith)) in
      let shown : slice_get (map (shown_driver d) list) n ≡ Some (shown_driver d (driver_at list n)) = slice_get-map (shown_driver d) list n ∙ ap (option_map (shown_driver d)) (slice_get-get_or list n (Input 0) h) in
      let e : Some by.driver ≡ Some (shown_driver d (driver_at list n)) = sym by.here ∙ shown in
      let same : by.driver ≡ shown_driver d (driver_at list n) = cc in
      by.only ∙ ap (λ (x : Driver ℕ). map_driver (column_at d) x ∷ []) same

  pub covers : IsWellFormed d → AllByRecursion (HasCover d) list
  covers formed = all_from_among (HasCover d) list (λ s among. let at = among_get list s among in each at.0 s at.1)
    where
      each : (k : ℕ) (s : ColumnDriver) → slice_get list k ≡ Some s → HasCover d s
      each k s here =
          let same : driver_at list k ≡ s = get_or_from_slice_get list k s (Input 0) here in
          let all = subst (λ (ss : List (Driver Column)). AllByRecursion IsCovered ss) (driven k (slice_get_within list k s here)) (all_covered d formed (column_at d k)) in
          subst (HasCover d) same (covered (driver_at list k) all.0)

  pub loops : (order : List ℕ) → IsOrder (map read_now (map (shown_driver d) list)) order → HasNoLoop (map driver_reads list)
  loops order ordered = subst (λ (g : List (List ℕ)). HasNoLoop g) (sym (reads_shown d list)) (order_has_none (map read_now (map (shown_driver d) list)) order ordered)

  module _ (p : ℕ) (part : PearlPart) (pearl : IsPearlPart d p part) (is_part : IsNetworkPart list part) where
    abbrev own : List Column
    own = columns_in (length d.models) d pearl.of.path pearl.of.number

    abbrev col : ℕ → Column
    col = col_of d p part pearl

    inside : (k : ℕ) → k < part.nets → IsInside pearl.of.path (col k).path
    inside k h =
        let long = pearl.long in
        let c = item_at own k (omega arith) in
        subst (λ (x : Column). IsInside pearl.of.path x.path) (sym (own_at d p part pearl k c.0 c.1)) (column_inside d (length d.models) pearl.of.path pearl.of.number c.0 (get_among own k c.0 c.1))

    module _ (f : Flat) (flattened : IsFlattened d list part f) where
      driven_net : (k : ℕ) (s : Driver ℕ) → Among s (flat_drivers f k) → k < part.nets
      driven_net k s among = elim (cases_lt k part.nets) [
        | inl here ↦ here
        | inr past ↦ absurd (subst (λ (xs : List (Driver ℕ)). Among s xs) (flattened.past k (let e = flattened.nets in omega arith)) among)
      ]

      each : StandsForAll (drivers d) col f
      each k s among =
          let below = driven_net k s among in
          let there = is_part.there in
          let only_driver = driven (part.start + k) (omega arith) in
          elim (flattened.each k s among) [
            | inl input ↦ inl input
            | inr (r, one, stands) ↦
                inr (
                  map_driver (column_at d) r,
                  subst (λ (ss : List (Driver Column)). Among (map_driver (column_at d) r) ss) (sym only_driver) (inl (ap (map_driver (column_at d)) (among_one r (shown_driver d (driver_at list (part.start + k))) one))),
                  stands_on (λ k. part.start + k) (column_at d) s r stands,
                )
          ]

      feeds : (b k : ℕ) → Feeds (flat_drivers f) b k → Feeds (drivers d) (col b) (col k)
      feeds b k (s, among, read) = elim (each k s among) [
        | inl input ↦ absurd (no_read s b input read)
        | inr (r, here, stands) ↦ (r, here, read_on col s r b stands read)
      ]

      end_below : (n a k : ℕ) → a < part.nets → EdgesLead (flat_drivers f) n a k → k < part.nets
      end_below zero a k below w = subst (λ (x : ℕ). x < part.nets) w below
      end_below (suc n) a k below w = driven_net k w.2.0 w.2.1

      walk_inside : (n a k : ℕ) → a < part.nets → EdgesLead (flat_drivers f) n a k → WalkInside d pearl.of.path n (col a) (col k)
      walk_inside zero a k below w = (ap col w, inside k (end_below zero a k below w))
      walk_inside (suc n) a k below w = (col w.0, walk_inside n a w.0 below w.1, feeds w.0 k w.2, inside k (end_below (suc n) a k below w))

      apart : HasNoDependence d → (n input output : ℕ) → Among input f.ins → Among output f.outs → EdgesLead (flat_drivers f) n input output → ⊥
      apart none n input output given out walk =
          let in_range = range_among 0 part.inputs input (subst (λ (ks : List ℕ). Among input ks) flattened.ins given) in
          let out_range = range_among part.inputs part.outputs output (subst (λ (ks : List ℕ). Among output ks) flattened.outs out) in
          let in_below = in_range.1 in
          let out_low = out_range.0 in
          let out_high = out_range.1 in
          let ports = is_part.ports in
          let counted = pearl.inputs in
          let counted_outs = pearl.outputs in
          let name = item_at (data_inputs d pearl.of.model) input (omega arith) in
          let place : (j : ℕ) × (output ≡ part.inputs + j) = from_low part.inputs output out_low in
          let at = place.1 in
          let out_name = item_at pearl.of.model.outputs place.0 (omega arith) in
          let in_column : col input ≡ column pearl.of.path name.0 = input_at d p part pearl input (column pearl.of.path name.0) (slice_get-map (column pearl.of.path) (data_inputs d pearl.of.model) input ∙ ap (option_map (column pearl.of.path)) name.1) in
          let out_column : col output ≡ column pearl.of.path out_name.0 = ap col at ∙ output_at d p part pearl place.0 (column pearl.of.path out_name.0) (slice_get-map (column pearl.of.path) pearl.of.model.outputs place.0 ∙ ap (option_map (column pearl.of.path)) out_name.1) in
          let inner = walk_inside n input output (omega arith) walk in
          none p place.0 input pearl.of.model out_name.0 name.0 (record {
            path = pearl.of.path;
            pearl = pearl.of.here;
            model = pearl.of.body;
            out = out_name.1;
            given = name.1;
            walk = (n, subst (λ (c : Column). WalkInside d pearl.of.path n c (column pearl.of.path out_name.0)) in_column (subst (λ (c : Column). WalkInside d pearl.of.path n (col input) c) out_column inner));
          })
        where
          from_low : (a k : ℕ) → a ≤ k → (j : ℕ) × (k ≡ a + j)
          from_low zero k h = (k, omega arith)
          from_low (suc a) zero h = absurd (omega arith)
          from_low (suc a) (suc k) h = let found = from_low a k (omega arith) in let e = found.1 in (found.0, omega arith)

      pub flat_is : HasNoDependence d → IsFlat f
      flat_is none = record {
        below = flattened.rules.below;
        once = flattened.rules.once;
        driven = flattened.rules.driven;
        earlier = flattened.rules.earlier;
        apart = apart none;
        covers = flattened.rules.covers;
      }

      pub flat_of : IsFlatOf d p f
      flat_of = record {
        of = pearl.of;
        col = col;
        all = ap (λ (n : ℕ). map col (range_with_len 0 n)) flattened.nets ∙ all_are d p part pearl;
        ins = ap (map col) flattened.ins ∙ ins_are d p part pearl;
        outs = ap (map col) flattened.outs ∙ outs_are d p part pearl;
        each = each;
      }

-- the part of a pearl among those of all
pub part_of_pearl : (d : Design) (facts : Facts) → AreFacts d facts → (p : ℕ) (other : PearlPart) → p < length (pearls d) → IsPearlPart d p (slice_index_or facts.parts p other) × IsNetworkPart facts.network.columns.drivers (slice_index_or facts.parts p other)
part_of_pearl d facts are p other below = let count = are.parts.count in are.parts.each p (slice_index_or facts.parts p other) (slice_get-get_or facts.parts p other (omega arith))

-- what is made of the part of a pearl is its flat part
pub flat_made : (d : Design) (facts : Facts) → AreFacts d facts → (p : ℕ) (other : PearlPart) → p < length (pearls d) → (f : Flat) → IsFlattened d facts.network.columns.drivers (slice_index_or facts.parts p other) f → IsFlat f × IsFlatOf d p f
flat_made d facts are p other below f flattened =
    let part = part_of_pearl d facts are p other below in
    let list = facts.network.columns.drivers in
    let starts = facts.network.columns.starts in
    let is = are.network.elaborated in
    (flat_is d list starts is p (slice_index_or facts.parts p other) part.0 part.1 f flattened are.accepted.outputs, flat_of d list starts is p (slice_index_or facts.parts p other) part.0 part.1 f flattened)
