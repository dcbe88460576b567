-- The cells at the outside, by what it has.
use Rattle.std.proofs.Common.{◌≡◌, ℕ, ◌<◌, Bool, true, false, cond, List, [], ◌∷◌, ◌++◌, length, map, flat_map, Some, slice_get, refl, sym, ◌∙◌, ap, arith, append_assoc}
use Rattle.std.specs.Prelude.{Option}
use Rattle.std.specs.Option.{option_map_or}
use Rattle.std.proofs.lemmas.List.{length-map}
use Rattle.lid_base.specs.Each.{from_each}
use Rattle.lid_emit_circuit.specs.Lists.{outer_wires}
use Rattle.std.proofs.lemmas.Bool.{lt-ltb}
use Rattle.lid_design.specs.declared.Cell.{Cell}
use Rattle.lid_design.specs.declared.Cell.TheVariants.{Names}
use Rattle.lid_emit_circuit.specs.Wires.{Wire, entry, given, steady, may, shown, valid, stop}
use Rattle.lid_emit_circuit.specs.Gates.{constant, buffer, negation, both}
use Rattle.lid_emit_circuit.specs.Plans.{CircuitPlan}
use Rattle.lid_emit_circuit.specs.Network.{sink, last_link, gate, emitted}
use Rattle.lid_emit_names.specs.Named.{cell_of, cells_driving}
use Rattle.lid_emit_cells.specs.declared.outer.Outer.{Outer}
use Rattle.lid_emit_cells.specs.declared.wire.Wire.TheVariants.{Steady}
use Rattle.lid_emit_cells.specs.Shown.{wire_of}
use Rattle.lid_emit_cells.specs.Matches.{IsOuterOf}
use Rattle.lid_emit_cells.specs.Drafts.{Draft, name_on, constant_cell, with_cells, with_wires}
use Rattle.lid_emit_cells.proofs.Drafting.{one_wire, more_wires}

module _ (q : CircuitPlan) (name : Wire → List ℕ) (outer : Outer) (is : IsOuterOf q outer) where
  abbrev given_by : ℕ → Bool → List Cell
  given_by j there = flat_map (cell_of name (given j)) (cond there (gate buffer (entry j ∷ [])) [])

  pub given_is : (j : ℕ) → j < outer.inputs → Names (name (entry j) ∷ []) (name (given j)) buffer ∷ [] ≡ cells_driving q name (given j)
  unfolding emitted
  given_is j below = sym (ap (given_by j) (lt-ltb j q.inputs (omega (arith, below, is.inputs))))

  last_is : last_link q (sink q) ≡ may outer.last outer.last_ends
  last_is = ap (λ (n : ℕ). may (sink q) n) is.last_ends ∙ ap (λ (v : ℕ). may v outer.last_ends) is.last

  first_is : last_link q 0 ≡ may 0 outer.first_ends
  first_is = ap (may 0) is.first_ends

  abbrev shown_by : ℕ → Option Wire → List Cell
  shown_by j o = flat_map (cell_of name (shown j)) (option_map_or (λ wire. gate both (last_link q (sink q) ∷ wire ∷ [])) o [])

  pub shown_is : (j : ℕ) (w : Wire) → slice_get (map wire_of outer.shows) j ≡ Some w → Names (name (may outer.last outer.last_ends) ∷ name w ∷ []) (name (shown j)) both ∷ [] ≡ cells_driving q name (shown j)
  unfolding emitted
  shown_is j w here =
      ap (λ (x : Wire). Names (name x ∷ name w ∷ []) (name (shown j)) both ∷ []) (sym last_is)
      ∙ sym (ap (shown_by j) (ap (λ (ws : List Wire). slice_get ws j) is.shows ∙ here))

  pub valid_is : Names (name (may outer.last outer.last_ends) ∷ []) (name valid) buffer ∷ [] ≡ cells_driving q name valid
  unfolding emitted
  valid_is = ap (λ (x : Wire). Names (name x ∷ []) (name valid) buffer ∷ []) (sym last_is)

  pub stop_is : Names (name (may 0 outer.first_ends) ∷ []) (name stop) negation ∷ [] ≡ cells_driving q name stop
  unfolding emitted
  stop_is = ap (λ (x : Wire). Names (name x ∷ []) (name stop) negation ∷ []) (sym first_is)

  pub steady_is : (bit : Bool) → Names [] (name (steady bit)) (constant bit) ∷ [] ≡ cells_driving q name (steady bit)
  unfolding emitted
  steady_is bit = refl

module _ (q : CircuitPlan) (outer : Outer) (is : IsOuterOf q outer) where
  abbrev four : List Wire
  four = steady false ∷ steady true ∷ valid ∷ stop ∷ []

  pub four_done : (old first second third fourth : Draft)
      → first ≡ with_cells old (constant_cell old (Steady false) false ∷ []) → second ≡ with_cells first (constant_cell first (Steady true) true ∷ [])
      → third ≡ with_wires q second (valid ∷ []) → fourth ≡ with_wires q third (stop ∷ [])
      → fourth ≡ with_wires q old four
  four_done old first second third fourth one two three last =
      let one_is = one_wire q old first (steady false) (constant_cell old (Steady false) false) one (steady_is q (name_on old) outer is false) in
      let two_is = one_wire q first second (steady true) (constant_cell first (Steady true) true) two (steady_is q (name_on first) outer is true) in
      let both_are = more_wires q old first second (steady false ∷ []) (steady true ∷ []) one_is two_is in
      let three_are = more_wires q old second third (steady false ∷ steady true ∷ []) (valid ∷ []) both_are three in
      more_wires q old third fourth (steady false ∷ steady true ∷ valid ∷ []) (stop ∷ []) three_are last

  pub outer_done : (old first second third : Draft)
      → first ≡ with_wires q old (from_each given 0 outer.inputs) → second ≡ with_wires q first four → third ≡ with_wires q second (from_each shown 0 (length outer.shows))
      → third ≡ with_wires q old (outer_wires q)
  outer_done old first second third one two three =
      let long : length q.shows ≡ length outer.shows = ap length is.shows ∙ length-map outer.shows wire_of in
      more_wires q old second third (from_each given 0 outer.inputs ++ four) (from_each shown 0 (length outer.shows)) (more_wires q old first second (from_each given 0 outer.inputs) four one two) three
      ∙ ap (with_wires q old) (append_assoc (from_each given 0 outer.inputs) four (from_each shown 0 (length outer.shows))
      ∙ ap (λ (n : ℕ). from_each given 0 n ++ (four ++ from_each shown 0 (length outer.shows))) (sym is.inputs)
      ∙ ap (λ (n : ℕ). from_each given 0 q.inputs ++ (four ++ from_each shown 0 n)) (sym long))
