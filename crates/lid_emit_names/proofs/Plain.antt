-- A design of named wires meets the plain facts from which acceptance follows.
use Rattle.std.proofs.Common.{◌≡◌, ℕ, ◌+◌, ◌<◌, ◌⊎◌, inl, inr, Bool, true, false, List, [], ◌∷◌, ◌++◌, length, map, flat_map, filter, refl, sym, ◌∙◌, ap, subst, arith}
use Rattle.std.specs.Prelude.{bytes_eq}
use Rattle.std.specs.List.{AllByRecursion, IsDistinct}
use Rattle.std.proofs.lemmas.List.{length-map, map-append}
use Rattle.lid_base.specs.Lists.{Among, AreOnce}
use Rattle.lid_base.proofs.Lists.{among_left, among_right, among_append, among_map, map_among, all_among, among_filter, filter_among, flat_among, same_bytes}
use Rattle.lid_cover.specs.declared.Cover.{Cover}
use Rattle.lid_design.specs.declared.Model.{Model}
use Rattle.lid_design.specs.declared.Cell.{Cell}
use Rattle.lid_design.specs.declared.Cell.TheVariants.{Names}
use Rattle.lid_design.specs.Network.{Driver, from_input, from_latch, from_cover, from_connection}
use Rattle.lid_base.specs.Each.{from_each}
use Rattle.lid_design.specs.Feeds.{read_now}
use Rattle.lid_design.specs.Models.{cell_reads}
use Rattle.lid_design.specs.WellFormed.{IsWellFormed, IsWellFormedCell}
use Rattle.lid_check_laws.specs.Plain.{IsUnclocked, AreAmong, pearl_drivers, IsPlainPearl, IsRising, IsApart}
use Rattle.lid_emit_circuit.specs.Wires.{Wire, entry, given, offer, block, steady, may, fire, level, grown, place, moved, now, kept, later, shown, valid, stop}
use Rattle.lid_emit_circuit.specs.Plans.{CircuitPlan}
use Rattle.lid_emit_circuit.specs.Network.{emitted}
use Rattle.lid_emit_circuit.specs.Known.{IsKnown, is_outer, is_late}
use Rattle.lid_emit_circuit.specs.Heights.{height}
use Rattle.lid_emit_circuit.specs.Connected.{IsConnected, IsDrivenByCell, IsFormed}
use Rattle.lid_emit_circuit.specs.Lists.{wires}
use Rattle.lid_base.proofs.Once.{once_append, once_each}
use Rattle.lid_emit_circuit.proofs.Listed.{are_listed}
use Rattle.lid_emit_names.specs.Named.{cell_of, input_wires, output_wires, named_model, named_design, IsNaming}
use Rattle.lid_emit_names.proofs.Written.{written_formed, written_inputs}
use Rattle.lid_emit_names.proofs.Cells.{listed_known, listed_cell, outs_are, from_where, same_source, reads_known, read_wire, cover_cell, IsCoverCell}
use Rattle.lid_base.proofs.Each.{each_among, among_each}
use Rattle.lid_base.proofs.Alls.{all_from_among}

module _ (q : CircuitPlan) (con : IsConnected q) where
  -- the inputs, as wires
  abbrev Inside : Wire → Type 0
  Inside w = IsKnown q w × (is_outer w ≡ true)

  pub input_in : (w : Wire) → Among w (input_wires q) → Inside w
  input_in w there = by (among_append w (from_each entry 0 q.inputs) (offer ∷ block ∷ []) there)
    where
      by : Among w (from_each entry 0 q.inputs) ⊎ Among w (offer ∷ block ∷ []) → Inside w
      by (inl i) = let at = among_each entry 0 q.inputs w i in let high : at.0 < 0 + q.inputs = at.2 in subst Inside (sym at.3) (omega arith, refl)
      by (inr (inl is)) = subst Inside (sym is) (tt, refl)
      by (inr (inr (inl is))) = subst Inside (sym is) (tt, refl)
      by (inr (inr (inr none))) = absurd none

  pub outer_input : (w : Wire) → IsKnown q w → is_outer w ≡ true → Among w (input_wires q)
  outer_input (entry j) known outer = among_left (entry j) (from_each entry 0 q.inputs) (offer ∷ block ∷ []) (each_among entry 0 q.inputs j (omega arith) (omega (arith, known)))
  outer_input offer known outer = among_right offer (from_each entry 0 q.inputs) (offer ∷ block ∷ []) (inl refl)
  outer_input block known outer = among_right block (from_each entry 0 q.inputs) (offer ∷ block ∷ []) (inr (inl refl))
  outer_input (given j) known outer = cc
  outer_input (steady bit) known outer = cc
  outer_input (may v i) known outer = cc
  outer_input (fire v) known outer = cc
  outer_input (level s i) known outer = cc
  outer_input (grown s i) known outer = cc
  outer_input (place s i j) known outer = cc
  outer_input (moved s i j) known outer = cc
  outer_input (now v k) known outer = cc
  outer_input (kept v k) known outer = cc
  outer_input (later v k) known outer = cc
  outer_input (shown j) known outer = cc
  outer_input valid known outer = cc
  outer_input stop known outer = cc

  entry_same : (i j : ℕ) → entry i ≡ entry j → i ≡ j
  entry_same i j same = cc

  shown_same : (i j : ℕ) → shown i ≡ shown j → i ≡ j
  shown_same i j same = cc

  inputs_once : AreOnce (input_wires q)
  inputs_once = once_append (from_each entry 0 q.inputs) (offer ∷ block ∷ []) (once_each entry 0 q.inputs entry_same) (first, ((λ none. none), tt)) apart
    where
      first : Among offer (block ∷ []) → ⊥
      first (inl is) = cc
      first (inr none) = none

      no_entry : (j : ℕ) (w : Wire) → w ≡ entry j → Among w (offer ∷ block ∷ []) → ⊥
      no_entry j w is (inl other) = let e : entry j ≡ offer = sym is ∙ other in cc
      no_entry j w is (inr (inl other)) = let e : entry j ≡ block = sym is ∙ other in cc
      no_entry j w is (inr (inr none)) = none

      apart : (w : Wire) → Among w (from_each entry 0 q.inputs) → Among w (offer ∷ block ∷ []) → ⊥
      apart w there also = let at = among_each entry 0 q.inputs w there in no_entry at.0 w at.3 also

  outputs_once : AreOnce (output_wires q)
  outputs_once = once_append (from_each shown 0 (length q.shows)) (valid ∷ stop ∷ []) (once_each shown 0 (length q.shows) shown_same) (first, ((λ none. none), tt)) apart
    where
      first : Among valid (stop ∷ []) → ⊥
      first (inl is) = cc
      first (inr none) = none

      no_shown : (j : ℕ) (w : Wire) → w ≡ shown j → Among w (valid ∷ stop ∷ []) → ⊥
      no_shown j w is (inl other) = let e : shown j ≡ valid = sym is ∙ other in cc
      no_shown j w is (inr (inl other)) = let e : shown j ≡ stop = sym is ∙ other in cc
      no_shown j w is (inr (inr none)) = none

      apart : (w : Wire) → Among w (from_each shown 0 (length q.shows)) → Among w (valid ∷ stop ∷ []) → ⊥
      apart w there also = let at = among_each shown 0 (length q.shows) w there in no_shown at.0 w at.3 also

  -- outputs are known wires to which no input leads
  abbrev Shown : Wire → Type 0
  Shown w = IsKnown q w × (is_outer w ≡ false) × (is_late w ≡ false)

  output_in : (w : Wire) → Among w (output_wires q) → Shown w
  output_in w there = by (among_append w (from_each shown 0 (length q.shows)) (valid ∷ stop ∷ []) there)
    where
      by : Among w (from_each shown 0 (length q.shows)) ⊎ Among w (valid ∷ stop ∷ []) → Shown w
      by (inl i) = let at = among_each shown 0 (length q.shows) w i in let high : at.0 < 0 + length q.shows = at.2 in subst Shown (sym at.3) (omega arith, refl, refl)
      by (inr (inl is)) = subst Shown (sym is) (tt, refl, refl)
      by (inr (inr (inl is))) = subst Shown (sym is) (tt, refl, refl)
      by (inr (inr (inr none))) = absurd none

  -- all wires
  abbrev all_wires : List Wire
  all_wires = input_wires q ++ wires q

  all_once : AreOnce all_wires
  all_once = once_append (input_wires q) (wires q) inputs_once (are_listed q con).once
      (λ w there also. let e : true ≡ false = sym (input_in w there).1 ∙ (((are_listed q con).each w).0 also).1 in cc)

  all_known : (w : Wire) → Among w all_wires → IsKnown q w
  all_known w there = by (among_append w (input_wires q) (wires q) there)
    where
      by : Among w (input_wires q) ⊎ Among w (wires q) → IsKnown q w
      by (inl i) = (input_in w i).0
      by (inr i) = (((are_listed q con).each w).0 i).0

  pub known_all : (w : Wire) → IsKnown q w → Among w all_wires
  known_all w known = by (is_outer w) refl
    where
      by : (b : Bool) → is_outer w ≡ b → Among w all_wires
      by true outer = among_left w (input_wires q) (wires q) (outer_input w known outer)
      by false inner = among_right w (input_wires q) (wires q) (((are_listed q con).each w).1 (known, inner))

  module _ (name : Wire → List ℕ) (root : List ℕ) where
    abbrev m : Model
    m = named_model q name root

    drivers_are : pearl_drivers m ≡ map name all_wires
    drivers_are = ap (λ (xs : List (List ℕ)). map name (input_wires q) ++ xs) (outs_are q con name) ∙ sym (map-append name (input_wires q) (wires q))

    unclocked : (cell : Cell) → Among cell m.cells → IsUnclocked cell
    unclocked cell among = by (from_where q con name cell among).source (from_where q con name cell among).is
      where
        by : (s : Driver Wire) → Among cell (cell_of name (from_where q con name cell among).wire s) → IsUnclocked cell
        by (from_input j) none = absurd none
        by (from_connection c) none = absurd none
        by (from_latch first input) (inl is) = subst IsUnclocked (sym is) (refl, refl)
        by (from_latch first input) (inr none) = absurd none
        by (from_cover cover reads) (inl is) = subst IsUnclocked (sym is) tt
        by (from_cover cover reads) (inr none) = absurd none

    formed_cell : (cell : Cell) → Among cell m.cells → IsWellFormedCell cell
    formed_cell cell among = by (from_where q con name cell among).source (from_where q con name cell among).drives (from_where q con name cell among).is
      where
        source_formed : (s : Driver Wire) → Among s (emitted q (from_where q con name cell among).wire) → IsFormed s
        source_formed s drives =
            let of = listed_cell q con name (from_where q con name cell among).wire (from_where q con name cell among).there in
            subst IsFormed (sym (same_source q con name (from_where q con name cell among).wire of s drives)) of.formed

        by : (s : Driver Wire) → Among s (emitted q (from_where q con name cell among).wire) → Among cell (cell_of name (from_where q con name cell among).wire s) → IsWellFormedCell cell
        by (from_input j) drives none = absurd none
        by (from_connection c) drives none = absurd none
        by (from_latch first input) drives (inl is) = subst IsWellFormedCell (sym is) tt
        by (from_latch first input) drives (inr none) = absurd none
        by (from_cover cover reads) drives (inl is) =
            let formed = source_formed (from_cover cover reads) drives in
            subst IsWellFormedCell (sym is) (written_formed cover formed.0, written_inputs cover ∙ formed.1 ∙ sym (length-map reads name))
        by (from_cover cover reads) drives (inr none) = absurd none

    pub formed : IsWellFormed (named_design q name root)
    unfolding IsDistinct
    formed = record {
      rooted = omega arith;
      few = omega arith;
      distinct = (tt, tt);
      insts = (omega arith, tt);
      cells = (all_from_among IsWellFormedCell m.cells formed_cell, tt);
    }

    -- names of wires
    read_there : (net : List ℕ) → (r : Wire) × IsKnown q r × (net ≡ name r) → Among net (pearl_drivers m)
    read_there net read = subst (λ (xs : List (List ℕ)). Among net xs) (sym drivers_are) (subst (λ (x : List ℕ). Among x (map name all_wires)) (sym read.2) (among_map {A = Wire} {B = List ℕ} name read.0 all_wires (known_all read.0 read.1)))

    driven : AreAmong (flat_map cell_reads m.cells ++ m.outputs) (pearl_drivers m)
    driven net among = by (among_append net (flat_map cell_reads m.cells) m.outputs among)
      where
        by : Among net (flat_map cell_reads m.cells) ⊎ Among net m.outputs → Among net (pearl_drivers m)
        by (inl i) = let found = flat_among {A = Cell} {B = List ℕ} cell_reads net m.cells i in read_there net (read_wire q con name found.0 found.1 net found.2)
        by (inr i) = let found = map_among {A = Wire} {B = List ℕ} name net (output_wires q) i in read_there net (found.0, (output_in found.0 found.1).0, found.2)

    module _ (naming : IsNaming q name) where
      -- names that differ
      other_name : (w : Wire) (ws : List Wire) → IsKnown q w → ((x : Wire) → Among x ws → IsKnown q x) → ¬ Among w ws → AllByRecursion (λ (y : List ℕ). bytes_eq (name w) y ≡ false) (map name ws)
      other_name w [] known each new = tt
      other_name w (x ∷ xs) known each new = (differ (bytes_eq (name w) (name x)) refl, other_name w xs known (λ y i. each y (inr i)) (λ there. new (inr there)))
        where
          differ : (b : Bool) → bytes_eq (name w) (name x) ≡ b → b ≡ false
          differ true is = absurd (new (inl (naming w x known (each x (inl refl)) (same_bytes (name w) (name x) is))))
          differ false is = refl

      distinct_names : (ws : List Wire) → AreOnce ws → ((x : Wire) → Among x ws → IsKnown q x) → IsDistinct bytes_eq (map name ws)
      unfolding IsDistinct
      distinct_names [] once each = tt
      distinct_names (w ∷ ws) once each = (other_name w ws (each w (inl refl)) (λ x i. each x (inr i)) once.0, distinct_names ws once.1 (λ x i. each x (inr i)))

      pub plain : IsPlainPearl m
      plain = record {
        insts = refl;
        clocks = refl;
        cells = unclocked;
        outputs = distinct_names (output_wires q) outputs_once (λ w i. (output_in w i).0);
        once = subst (IsDistinct bytes_eq) (sym drivers_are) (distinct_names all_wires all_once all_known);
        driven = driven;
      }

      -- heights
      abbrev named_height : Wire → List ℕ × ℕ
      named_height w = (name w, height q w)

      abbrev pub heights : List (List ℕ × ℕ)
      heights = map named_height all_wires

      height_there : (w : Wire) (net : List ℕ) → IsKnown q w → net ≡ name w → Among {A = List ℕ × ℕ} (net, height q w) heights
      height_there w net known is = subst (λ (x : List ℕ). Among {A = List ℕ × ℕ} (x, height q w) heights) (sym is) (among_map {A = Wire} {B = List ℕ × ℕ} named_height w all_wires (known_all w known))

      height_is : (w : Wire) (net : List ℕ) (h : ℕ) → IsKnown q w → net ≡ name w → Among {A = List ℕ × ℕ} (net, h) heights → h ≡ height q w
      height_is w net h known is there =
          let found = map_among {A = Wire} {B = List ℕ × ℕ} named_height (net, h) all_wires there in
          let same : w ≡ found.0 = naming w found.0 known (all_known found.0 found.1) (sym is ∙ ap (λ (p : List ℕ × ℕ). p.0) found.2) in
          ap (λ (p : List ℕ × ℕ). p.1) found.2 ∙ ap (height q) (sym same)

      module _ (inputs : List (List ℕ)) (out : List ℕ) (cover : Cover) (among : Among (Names inputs out cover) m.cells) where
        abbrev at : IsCoverCell q con name inputs out cover
        at = cover_cell q con name inputs out cover among

        abbrev its_cell : IsDrivenByCell q at.wire
        its_cell = listed_cell q con name at.wire at.there

        its_source : from_cover at.logic at.reads ≡ its_cell.source
        its_source = same_source q con name at.wire its_cell (from_cover at.logic at.reads) at.drives

        its_wire_known : IsKnown q at.wire
        its_wire_known = listed_known q con name at.wire at.there

        read_of : (net : List ℕ) → Among net inputs → (r : Wire) × Among r at.reads × (net ≡ name r)
        read_of net i = map_among {A = Wire} {B = List ℕ} name net at.reads (subst (λ (xs : List (List ℕ)). Among net xs) at.inputs_are i)

        read_known : (r : Wire) → Among r at.reads → IsKnown q r
        read_known r i = reads_known q con name at.wire at.there (from_cover at.logic at.reads) at.drives r (among_left r at.reads [] i)

        read_lower : (r : Wire) → Among r at.reads → height q r < height q at.wire
        read_lower r i = all_among (λ r. height q r < height q at.wire) (read_now its_cell.source) r its_cell.lower (subst (λ (s : Driver Wire). Among r (read_now s)) its_source i)

        read_late : (r : Wire) → Among r at.reads → is_late r ≡ true → is_late at.wire ≡ true
        read_late r i = all_among (λ r. is_late r ≡ true → is_late at.wire ≡ true) (read_now its_cell.source) r its_cell.apart (subst (λ (s : Driver Wire). Among r (read_now s)) its_source i)

        cover_high : (h : ℕ) × Among {A = List ℕ × ℕ} (out, h) heights
        cover_high = (height q at.wire, height_there at.wire out its_wire_known at.out_is)

        cover_lower : (net : List ℕ) (h : ℕ) → Among net inputs → Among {A = List ℕ × ℕ} (out, h) heights → (low : ℕ) × (low < h) × Among {A = List ℕ × ℕ} (net, low) heights
        cover_lower net h i there =
            let read = read_of net i in
            let is : h ≡ height q at.wire = height_is at.wire out h its_wire_known at.out_is there in
            (height q read.0, omega (arith, is, read_lower read.0 read.1), height_there read.0 net (read_known read.0 read.1) read.2)

      pub rising : IsRising heights m
      rising = record { some = cover_high; lower = λ inputs out cover net h among i there. cover_lower inputs out cover among net h i there }

      -- late wires
      abbrev pub late : List (List ℕ)
      late = map name (filter is_late all_wires)

      late_there : (w : Wire) (net : List ℕ) → IsKnown q w → net ≡ name w → is_late w ≡ true → Among net late
      late_there w net known is late_is = subst (λ (x : List ℕ). Among x (map name (filter is_late all_wires))) (sym is) (among_map {A = Wire} {B = List ℕ} name w (filter is_late all_wires) (among_filter is_late w all_wires (known_all w known) late_is))

      late_is : (w : Wire) (net : List ℕ) → IsKnown q w → net ≡ name w → Among net late → is_late w ≡ true
      late_is w net known is there =
          let found = map_among {A = Wire} {B = List ℕ} name net (filter is_late all_wires) there in
          let kept = filter_among is_late found.0 all_wires found.1 in
          let same : w ≡ found.0 = naming w found.0 known (all_known found.0 kept.0) (sym is ∙ found.2) in
          ap is_late same ∙ kept.1

      outer_late : (w : Wire) → is_outer w ≡ true → is_late w ≡ true
      outer_late (entry j) outer = refl
      outer_late offer outer = refl
      outer_late block outer = refl
      outer_late (given j) outer = refl
      outer_late (fire v) outer = refl
      outer_late (grown s i) outer = refl
      outer_late (moved s i j) outer = refl
      outer_late (kept v k) outer = refl
      outer_late (steady bit) outer = cc
      outer_late (may v i) outer = cc
      outer_late (level s i) outer = cc
      outer_late (place s i j) outer = cc
      outer_late (now v k) outer = cc
      outer_late (later v k) outer = cc
      outer_late (shown j) outer = cc
      outer_late valid outer = cc
      outer_late stop outer = cc

      pub apart : IsApart late m
      apart = record {
        inputs = λ net among. let found = map_among {A = Wire} {B = List ℕ} name net (input_wires q) among in let is = input_in found.0 found.1 in late_there found.0 net is.0 found.2 (outer_late found.0 is.1);
        kept = λ inputs out cover net among i there.
            let read = read_of inputs out cover among net i in
            let late_read = late_is read.0 net (read_known inputs out cover among read.0 read.1) read.2 there in
            late_there (at inputs out cover among).wire out (its_wire_known inputs out cover among) (at inputs out cover among).out_is (read_late inputs out cover among read.0 read.1 late_read);
        outputs = λ net among there.
            let found = map_among {A = Wire} {B = List ℕ} name net (output_wires q) among in
            let is = output_in found.0 found.1 in
            let e : true ≡ false = sym (late_is found.0 net is.0 found.2 there) ∙ is.2 in cc;
      }
