-- The data inputs of the root are driven by the rows.
use Rattle.std.proofs.Common.{◌≡◌, ℕ, zero, suc, ◌+◌, ◌<◌, Bool, true, false, not, cond, List, [], ◌∷◌, ◌++◌, length, get_or, Option, Some, None, slice_get, inl, refl, sym, subst, arith}
use Rattle.std.specs.List.{flat_map, enumerate_from}
use Rattle.std.specs.Option.{option_map_or}
use Rattle.std.specs.Str.{bytes_eq}
use Rattle.lid_base.specs.Lists.{Among}
use Rattle.lid_base.proofs.Lists.{among_left, among_right, among_at, filter_among, bytes_same}
use Rattle.lid_design.specs.declared.Design.{Design}
use Rattle.lid_design.specs.declared.Model.{Model}
use Rattle.lid_design.specs.Network.{Driver, from_input}
use Rattle.lid_design.specs.Columns.{Column, column, model_at, is_clock, data_inputs, places_of, cell_at, output_at, drivers_in, drivers, root_inputs}

place_among : (names : List (List ℕ)) (k j : ℕ) → j < length names → Among {A = Driver Column} (from_input (k + j)) (places_of (get_or names j []) k names)
place_among [] k j below = absurd (omega arith)
place_among (name ∷ names) k zero below =
    let place : k + 0 ≡ k = omega arith in
    subst (λ (i : ℕ). Among {A = Driver Column} (from_input i) (places_of name k (name ∷ names))) (sym place)
    (among_left (from_input k) (cond (bytes_eq name name) (from_input k ∷ []) []) (places_of name (k + 1) names)
    (subst (λ (b : Bool). Among {A = Driver Column} (from_input k) (cond b (from_input k ∷ []) [])) (sym (bytes_same name name refl)) (inl refl)))
place_among (name ∷ names) k (suc j) below =
    let place : (k + 1) + j ≡ k + suc j = omega arith in
    let net = get_or names j [] in
    among_right (from_input (k + suc j)) (cond (bytes_eq name net) (from_input k ∷ []) []) (places_of net (k + 1) names)
    (subst (λ (i : ℕ). Among {A = Driver Column} (from_input i) (places_of net (k + 1) names)) place (place_among names (k + 1) j (omega arith)))

no_clock : (d : Design) (m : Model) (net : List ℕ) → Among net (data_inputs d m) → is_clock d m net ≡ false
unfolding data_inputs
no_clock d m net among = by (is_clock d m net) (filter_among (λ (net : List ℕ). not (is_clock d m net)) net m.inputs among).1
  where
    by : (b : Bool) → not b ≡ true → b ≡ false
    by true e = absurd (let f : false ≡ true = e in cc)
    by false e = refl

module _ (d : Design) (m : Model) (j : ℕ) (below : j < length (data_inputs d m)) where
  abbrev net : List ℕ
  net = get_or (data_inputs d m) j []

  abbrev cells : List (Driver Column)
  cells = flat_map (cell_at [] net) m.cells

  abbrev outs : List (Driver Column)
  outs = flat_map (output_at d [] net) (enumerate_from 0 m.insts)

  driven_in : Among {A = Driver Column} (from_input j) (drivers_in d [] net m)
  driven_in =
      let clock = no_clock d m net (among_at (data_inputs d m) j [] below) in
      let place : 0 + j ≡ j = omega arith in
      let here : Among {A = Driver Column} (from_input j) (places_of net 0 (data_inputs d m)) = subst (λ (i : ℕ). Among {A = Driver Column} (from_input i) (places_of net 0 (data_inputs d m))) place (place_among (data_inputs d m) 0 j below) in
      subst (λ (b : Bool). Among {A = Driver Column} (from_input j) (cond b [] ((places_of net 0 (data_inputs d m) ++ cells) ++ outs))) (sym clock)
      (among_left (from_input j) (places_of net 0 (data_inputs d m) ++ cells) outs (among_left (from_input j) (places_of net 0 (data_inputs d m)) cells here))

pub root_input_drives : (d : Design) (j : ℕ) → j < length (root_inputs d) → Among {A = Driver Column} (from_input j) (drivers d (column [] (get_or (root_inputs d) j [])))
unfolding drivers model_at
root_input_drives d j below = by (slice_get d.models d.root) below
  where
    by : (o : Option Model) → j < length (option_map_or (data_inputs d) o []) → Among {A = Driver Column} (from_input j) (option_map_or (drivers_in d [] (get_or (option_map_or (data_inputs d) o []) j [])) o [])
    by None none = absurd (omega arith)
    by (Some m) below = driven_in d m j below
