-- A strict table of a design of named wires is one of the network.
use Rattle.std.proofs.Common.{◌≡◌, ℕ, zero, suc, ◌+◌, ◌<◌, ◌⊎◌, inl, inr, Bool, true, false, not, cond, List, [], ◌∷◌, ◌++◌, length, get_or, map, flat_map, Some, None, slice_get, refl, sym, ◌∙◌, ap, subst, arith}
use Rattle.std.specs.Prelude.{nat_lt, option_map, bytes_eq}
use Rattle.std.specs.List.{enumerate_from}
use Rattle.std.proofs.lemmas.Bool.{ltb-true}
use Rattle.std.proofs.lemmas.Option.{slice_get-map, slice_get_within, get_or_from_slice_get}
use Rattle.std.proofs.lemmas.Simd.{map-map}
use Rattle.lid_base.specs.Lists.{Among}
use Rattle.lid_base.proofs.Lists.{among_left, among_right, among_flat, all_among, bytes_same, among_if, filter_whole}
use Rattle.lid_cover.specs.Cover.{cover_value}
use Rattle.lid_design.specs.declared.Design.{Design}
use Rattle.lid_design.specs.declared.Model.{Model}
use Rattle.lid_design.specs.declared.Cell.{Cell}
use Rattle.lid_design.specs.declared.Cell.TheVariants.{Names, Latch}
use Rattle.lid_design.specs.declared.LatchKind.TheVariants.{Plain}
use Rattle.lid_design.specs.Network.{Driver, from_input, from_latch, from_cover, from_connection, Table, bit_of, latch_bit, IsStrict}
use Rattle.lid_base.specs.Each.{from_each}
use Rattle.lid_design.specs.Columns.{Column, column, is_clock, first_bit, cell_at, output_at, port_at, data_inputs, root_inputs, drivers, model_at}
use Rattle.lid_net_law.proofs.Inputs.{root_input_drives}
use Rattle.lid_check_laws.proofs.Lone.{no_clock}
use Rattle.lid_emit_circuit.specs.Wires.{Wire, entry, offer, block}
use Rattle.lid_emit_circuit.specs.Plans.{CircuitPlan}
use Rattle.lid_emit_circuit.specs.Network.{emitted}
use Rattle.lid_emit_circuit.specs.Known.{is_outer}
use Rattle.lid_emit_circuit.specs.Connected.{IsConnected, IsDrivenByCell, IsCellDriver}
use Rattle.lid_emit_circuit.specs.Lists.{wires}
use Rattle.lid_emit_circuit.proofs.Cells.{each_cell}
use Rattle.lid_emit_circuit.proofs.Others.{known}
use Rattle.lid_emit_circuit.proofs.Listed.{are_listed}
use Rattle.lid_emit_names.specs.Named.{written, init_of, cell_of, cells_driving, input_wires, named_model, named_design, IsNaming, seen_at}
use Rattle.lid_emit_names.proofs.Written.{written_value}
use Rattle.lid_emit_names.proofs.Cells.{same_source}
use Rattle.lid_emit_names.proofs.Plain.{plain}
use Rattle.lid_base.proofs.Places.{get_left}
use Rattle.lid_base.proofs.Alls.{all_from_among}
use Rattle.lid_base.proofs.Each.{each_length, each_get}

pub get_right : {A : Type 0} (xs ys : List A) (i : ℕ) (x : A) → slice_get ys i ≡ Some x → (j : ℕ) → j ≡ length xs + i → slice_get (xs ++ ys) j ≡ Some x
get_right [] ys i x h j is = let e : j ≡ i = omega arith in ap (slice_get ys) e ∙ h
get_right (y ∷ xs) ys i x h zero is = absurd (omega arith)
get_right (y ∷ xs) ys i x h (suc j) is = get_right xs ys i x h j (omega arith)

init_bit : (first : Bool) → first_bit (init_of first) ≡ first
init_bit true = refl
init_bit false = refl

module _ (q : CircuitPlan) (con : IsConnected q) (name : Wire → List ℕ) (naming : IsNaming q name) (root : List ℕ) where
  abbrev m : Model
  m = named_model q name root

  abbrev e : Design
  e = named_design q name root

  free : (net : List ℕ) → is_clock e m net ≡ false
  free net = no_clock e m (plain q con name root naming) net

  inputs_are : root_inputs e ≡ map name (input_wires q)
  unfolding data_inputs
  inputs_are = filter_whole (λ net. not (is_clock e m net)) (map name (input_wires q)) (λ net among. ap not (free net))

  -- where an input of the network stands
  place_of : (w : Wire) (j : ℕ) → Among {A = Driver Wire} (from_input j) (emitted q w) → slice_get (input_wires q) j ≡ Some w
  unfolding emitted
  place_of w j there = by (each_cell q con w (known q (from_input j) w there)) w refl there
    where
      no_cell : (cell : IsDrivenByCell q w) → ⊥
      no_cell cell = subst IsCellDriver (sym (same_source q con name w cell (from_input j) there)) cell.cell

      at_entry : (i : ℕ) (b : Bool) → nat_lt i q.inputs ≡ b → Among {A = Driver Wire} (from_input j) (cond b (from_input i ∷ []) []) → slice_get (input_wires q) j ≡ Some (entry i)
      at_entry i false is none = absurd none
      at_entry i true is (inr none) = absurd none
      at_entry i true is (inl same) =
          let number : j ≡ i = cc in
          let place : 0 + i ≡ i = omega arith in
          ap (slice_get (input_wires q)) number
          ∙ get_left (from_each entry 0 q.inputs) (offer ∷ block ∷ []) i (entry i) (each_get entry 0 q.inputs i (ltb-true i q.inputs is) ∙ ap (λ (n : ℕ). Some (entry n)) place)

      at_offer : Among {A = Driver Wire} (from_input j) (from_input q.inputs ∷ []) → slice_get (input_wires q) j ≡ Some offer
      at_offer (inr none) = absurd none
      at_offer (inl same) =
          let number : j ≡ q.inputs = cc in
          get_right (from_each entry 0 q.inputs) (offer ∷ block ∷ []) 0 offer refl j (omega (arith, each_length entry 0 q.inputs))

      at_block : Among {A = Driver Wire} (from_input j) (from_input (q.inputs + 1) ∷ []) → slice_get (input_wires q) j ≡ Some block
      at_block (inr none) = absurd none
      at_block (inl same) =
          let number : j ≡ q.inputs + 1 = cc in
          get_right (from_each entry 0 q.inputs) (offer ∷ block ∷ []) 1 block refl j (omega (arith, each_length entry 0 q.inputs))

      outer : (x : Wire) → is_outer x ≡ true → Among {A = Driver Wire} (from_input j) (emitted q x) → slice_get (input_wires q) j ≡ Some x
      outer (entry i) is here = at_entry i (nat_lt i q.inputs) refl here
      outer offer is here = at_offer here
      outer block is here = at_block here
      outer x is here = cc

      by : (is_outer w ≡ true) ⊎ IsDrivenByCell q w → (x : Wire) → w ≡ x → Among {A = Driver Wire} (from_input j) (emitted q w) → slice_get (input_wires q) j ≡ Some w
      by (inl is) x same here = outer w is here
      by (inr cell) x same here = absurd (no_cell cell)

  -- a cell drives its net
  cells_drive : (net : List ℕ) (r : Driver Column) → Among r (flat_map (cell_at [] net) m.cells) → Among r (drivers e (column [] net))
  unfolding drivers model_at
  cells_drive net r there =
      subst (λ (b : Bool). Among r (cond b [] ((port_at e m [] net ++ flat_map (cell_at [] net) m.cells) ++ flat_map (output_at e [] net) (enumerate_from 0 m.insts)))) (sym (free net))
      (among_left r (port_at e m [] net ++ flat_map (cell_at [] net) m.cells) (flat_map (output_at e [] net) (enumerate_from 0 m.insts)) (among_right r (port_at e m [] net) (flat_map (cell_at [] net) m.cells) there))

  cell_there : (w : Wire) (s : Driver Wire) (cell : Cell) → Among s (emitted q w) → Among cell (cell_of name w s) → is_outer w ≡ false → Among cell m.cells
  cell_there w s cell drives there inner =
      among_flat {A = Wire} {B = Cell} (cells_driving q name) w cell (wires q) (((are_listed q con).each w).1 (known q s w drives, inner))
      (among_flat {A = Driver Wire} {B = Cell} (cell_of name w) s cell (emitted q w) drives there)

  -- a wire with a cell is no input
  inner_of : (w : Wire) (s : Driver Wire) → Among s (emitted q w) → IsCellDriver s → is_outer w ≡ false
  unfolding emitted
  inner_of (entry j) s there cell = absurd (by (nat_lt j q.inputs) there)
    where
      by : (b : Bool) → Among s (cond b (from_input j ∷ []) []) → ⊥
      by true (inl is) = subst IsCellDriver is cell
      by true (inr none) = none
      by false none = none
  inner_of offer s (inl is) cell = absurd (subst IsCellDriver is cell)
  inner_of offer s (inr none) cell = absurd none
  inner_of block s (inl is) cell = absurd (subst IsCellDriver is cell)
  inner_of block s (inr none) cell = absurd none
  inner_of w s there cell = refl

  -- and no input is a connection
  no_connection : (w c : Wire) → is_outer w ≡ true → Among {A = Driver Wire} (from_connection c) (emitted q w) → ⊥
  unfolding emitted
  no_connection (entry j) c outer there = by (nat_lt j q.inputs) there
    where
      by : (b : Bool) → Among {A = Driver Wire} (from_connection c) (cond b (from_input j ∷ []) []) → ⊥
      by true (inl is) = cc
      by true (inr none) = none
      by false none = none
  no_connection offer c outer (inl is) = cc
  no_connection offer c outer (inr none) = none
  no_connection block c outer (inl is) = cc
  no_connection block c outer (inr none) = none
  no_connection w c outer there = cc

  module _ (rows : List (List Bool)) (b : Table Column) (strict : IsStrict (drivers e) rows b) where
    driven : (t : ℕ) (net : List ℕ) (r : Driver Column) → t < length rows → Among r (drivers e (column [] net)) → b t (column [] net) ≡ bit_of rows b t r
    driven t net r below there = all_among (λ r. b t (column [] net) ≡ bit_of rows b t r) (drivers e (column [] net)) r (strict t (column [] net) below) there

    input_bit : (t : ℕ) (w : Wire) (j : ℕ) → t < length rows → Among {A = Driver Wire} (from_input j) (emitted q w) → b t (column [] (name w)) ≡ bit_of rows b t (from_input j)
    input_bit t w j below there =
        let here : slice_get (root_inputs e) j ≡ Some (name w) = ap (λ (xs : List (List ℕ)). slice_get xs j) inputs_are ∙ slice_get-map name (input_wires q) j ∙ ap (option_map name) (place_of w j there) in
        let net : get_or (root_inputs e) j [] ≡ name w = get_or_from_slice_get (root_inputs e) j (name w) [] here in
        driven t (name w) (from_input j) below (subst (λ (x : List ℕ). Among {A = Driver Column} (from_input j) (drivers e (column [] x))) net (root_input_drives e j (slice_get_within (root_inputs e) j (name w) here)))

    latch_same : (t : ℕ) (first : Bool) (input : Wire) → latch_bit b (first_bit (init_of first)) (column [] (name input)) t ≡ latch_bit (seen_at name b) first input t
    latch_same zero first input = init_bit first
    latch_same (suc t) first input = refl

    each_driver : (t : ℕ) (w : Wire) (s : Driver Wire) → t < length rows → Among s (emitted q w) → b t (column [] (name w)) ≡ bit_of rows (seen_at name b) t s
    each_driver t w (from_input j) below there = input_bit t w j below there
    each_driver t w (from_latch first input) below there =
        driven t (name w) (from_latch (first_bit (init_of first)) (column [] (name input))) below
        (cells_drive (name w) (from_latch (first_bit (init_of first)) (column [] (name input)))
        (among_flat {A = Cell} {B = Driver Column} (cell_at [] (name w)) (Latch (name input) (name w) Plain None (init_of first)) (from_latch (first_bit (init_of first)) (column [] (name input))) m.cells
        (cell_there w (from_latch first input) (Latch (name input) (name w) Plain None (init_of first)) there (inl refl) (inner_of w (from_latch first input) there tt))
        (among_if (bytes_eq (name w) (name w)) (from_latch (first_bit (init_of first)) (column [] (name input))) (bytes_same (name w) (name w) refl))))
        ∙ latch_same t first input
    each_driver t w (from_cover cover reads) below there =
        driven t (name w) (from_cover (written cover) (map (column []) (map name reads))) below
        (cells_drive (name w) (from_cover (written cover) (map (column []) (map name reads)))
        (among_flat {A = Cell} {B = Driver Column} (cell_at [] (name w)) (Names (map name reads) (name w) (written cover)) (from_cover (written cover) (map (column []) (map name reads))) m.cells
        (cell_there w (from_cover cover reads) (Names (map name reads) (name w) (written cover)) there (inl refl) (inner_of w (from_cover cover reads) there tt))
        (among_if (bytes_eq (name w) (name w)) (from_cover (written cover) (map (column []) (map name reads))) (bytes_same (name w) (name w) refl))))
        ∙ written_value cover (map (b t) (map (column []) (map name reads)))
        ∙ ap (cover_value cover) (map-map (b t) (column []) (map name reads) ∙ map-map (λ net. b t (column [] net)) name reads)
    each_driver t w (from_connection c) below there = absurd (none (each_cell q con w (known q (from_connection c) w there)))
      where
        none : (is_outer w ≡ true) ⊎ IsDrivenByCell q w → ⊥
        none (inr cell) = subst IsCellDriver (sym (same_source q con name w cell (from_connection c) there)) cell.cell
        none (inl outer) = no_connection w c outer there

    pub runs : IsStrict (emitted q) rows (seen_at name b)
    runs t w below = all_from_among (λ s. seen_at name b t w ≡ bit_of rows (seen_at name b) t s) (emitted q w) (λ s there. each_driver t w s below there)
