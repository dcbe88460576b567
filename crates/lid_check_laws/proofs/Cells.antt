-- Latches and covers drive no more columns than there are cells.
use Rattle.std.proofs.Common.{◌≡◌, ℕ, zero, suc, ◌+◌, ◌≤◌, ◌&&◌, not, Bool, true, false, cond, List, [], ◌∷◌, ◌++◌, length, map, Option, Some, None, option_and_then, slice_get, inl, inr, refl, sym, ◌∙◌, ap, subst, arith}
use Rattle.std.specs.Option.{option_map_or}
use Rattle.std.specs.List.{IsDistinct, count_by, flat_map, sum_by, enumerate_from}
use Rattle.std.specs.Str.{bytes_eq}
use Rattle.std.proofs.lemmas.List.Sums.{sum_by-cons, sum_by-append}
use Rattle.lid_base.specs.Lists.{Among}
use Rattle.lid_base.proofs.Lists.{flat_among, enumerate_among}
use Rattle.lid_design.specs.declared.Design.{Design}
use Rattle.lid_design.specs.declared.Model.{Model}
use Rattle.lid_design.specs.declared.Cell.{Cell}
use Rattle.lid_design.specs.declared.Cell.TheVariants.{Names, Latch}
use Rattle.lid_design.specs.declared.Inst.{Inst}
use Rattle.lid_design.specs.declared.Bind.{Bind}
use Rattle.lid_design.specs.Network.{Driver, from_input, from_latch, from_cover, from_connection}
use Rattle.lid_design.specs.Columns.{Column, column, is_among, model_named, model_at, is_clock, data_inputs, first_bit, places_of, cell_at, output_at, actuals_of, port_at, drivers_in, drivers}
use Rattle.lid_design.specs.Models.{cell_out, occurrences, firsts, nets, insts_of, number_named, instance_number, number_from}
use Rattle.lid_design.specs.Elaboration.{Instance, instances_in, instances, columns_at, columns, own_cell_count, count_cells}
use Rattle.lid_check_drivers.proofs.Clocking.{model_at_number}
use Rattle.lid_check_loops.proofs.Geometry.{place_number}
use Rattle.lid_check_laws.proofs.Sets.{once_counted}
use Rattle.lid_check_laws.proofs.Nets.{distinct_kept, firsts_apart}
use Rattle.lid_base.proofs.Sums.{sum_flat, sum_map, sum_le}

-- a latch or a cover
abbrev pub is_cell : {C : Type 0} → Driver C → Bool
is_cell (from_input j) = false
is_cell (from_latch first c) = true
is_cell (from_cover cover cs) = true
is_cell (from_connection c) = false

-- how many latches and covers drive a column
abbrev pub cell_drivers : Design → Column → ℕ
cell_drivers d c = count_by is_cell (drivers d c)

count_two : {A : Type 0} (p : A → Bool) (xs ys : List A) → count_by p (xs ++ ys) ≡ count_by p xs + count_by p ys
count_two p xs ys = sum_by-append (λ x. cond (p x) 1 0) xs ys

count_flat_none : {A B : Type 0} (p : B → Bool) (f : A → List B) (xs : List A) → ((x : A) → count_by p (f x) ≡ 0) → count_by p (flat_map f xs) ≡ 0
count_flat_none p f [] none = refl
count_flat_none p f (x ∷ xs) none =
    let a = count_two p (f x) (flat_map f xs) in
    let b = none x in
    let c = count_flat_none p f xs none in
    omega arith

module _ (d : Design) where
  places_none : (net : List ℕ) (k : ℕ) (names : List (List ℕ)) → count_by is_cell (places_of net k names) ≡ 0
  places_none net k [] = refl
  places_none net k (name ∷ names) = by (bytes_eq name net) (places_none net (k + 1) names)
    where
      by : (b : Bool) → count_by is_cell (places_of net (k + 1) names) ≡ 0 → count_by {X = Driver Column} is_cell (cond b (from_input k ∷ []) [] ++ places_of net (k + 1) names) ≡ 0
      by true later = let e = sum_by-cons (λ (s : Driver Column). cond (is_cell s) 1 0) (from_input k) (places_of net (k + 1) names) in omega arith
      by false later = later

  actuals_none : (up net : List ℕ) (inst : Inst) → count_by is_cell (actuals_of up net inst) ≡ 0
  actuals_none up net inst = count_flat_none is_cell (λ (b : Bind). cond (bytes_eq b.formal net) (from_connection (column up b.actual) ∷ []) []) inst.binds (λ b. one (bytes_eq b.formal net) (column up b.actual))
    where
      one : (b : Bool) (c : Column) → count_by {X = Driver Column} is_cell (cond b (from_connection c ∷ []) []) ≡ 0
      one true c = refl
      one false c = refl

  port_none : (m : Model) (path net : List ℕ) → count_by is_cell (port_at d m path net) ≡ 0
  port_none m [] net = places_none net 0 (data_inputs d m)
  port_none m (i ∷ up) net = by (is_among net m.inputs) (option_and_then (λ around. slice_get around.insts i) (model_at d up))
    where
      of : (o : Option Inst) → count_by is_cell (option_map_or (actuals_of up net) o []) ≡ 0
      of None = refl
      of (Some inst) = actuals_none up net inst

      by : (b : Bool) (o : Option Inst) → count_by is_cell (cond b (option_map_or (actuals_of up net) o []) []) ≡ 0
      by true o = of o
      by false o = refl

  output_none : (path net : List ℕ) (p : ℕ × Inst) → count_by is_cell (output_at d path net p) ≡ 0
  output_none path net p = by (model_named d p.1.model)
    where
      one : (b : Bool) (c : Column) → count_by {X = Driver Column} is_cell (cond b (from_connection c ∷ []) []) ≡ 0
      one true c = refl
      one false c = refl

      by : (o : Option Model) → count_by is_cell (option_map_or (λ m. flat_map (λ b. cond (bytes_eq b.actual net && is_among b.formal m.outputs) (from_connection (column (p.0 ∷ path) b.formal) ∷ []) []) p.1.binds) o []) ≡ 0
      by None = refl
      by (Some m) = count_flat_none is_cell (λ (b : Bind). cond (bytes_eq b.actual net && is_among b.formal m.outputs) (from_connection (column (p.0 ∷ path) b.formal) ∷ []) []) p.1.binds (λ b. one (bytes_eq b.actual net && is_among b.formal m.outputs) (column (p.0 ∷ path) b.formal))

  cell_one : (path net : List ℕ) (cell : Cell) → count_by is_cell (cell_at path net cell) ≡ cond (bytes_eq (cell_out cell) net) 1 0
  cell_one path net (Names inputs out cover) = by (bytes_eq out net)
    where
      by : (b : Bool) → count_by {X = Driver Column} is_cell (cond b (from_cover cover (map (column path) inputs) ∷ []) []) ≡ cond b 1 0
      by true = refl
      by false = refl
  cell_one path net (Latch input out kind control init) = by (bytes_eq out net)
    where
      by : (b : Bool) → count_by {X = Driver Column} is_cell (cond b (from_latch (first_bit init) (column path input) ∷ []) []) ≡ cond b 1 0
      by true = refl
      by false = refl

  cells_driven : (path net : List ℕ) (cells : List Cell) → count_by is_cell (flat_map (cell_at path net) cells) ≡ count_by (λ cell. bytes_eq (cell_out cell) net) cells
  cells_driven path net [] = refl
  cells_driven path net (cell ∷ cells) =
      let a = count_two is_cell (cell_at path net cell) (flat_map (cell_at path net) cells) in
      let b = cell_one path net cell in
      let c = cells_driven path net cells in
      let e = sum_by-cons (λ (cell : Cell). cond (bytes_eq (cell_out cell) net) 1 0) cell cells in
      omega arith

  driven_few : (m : Model) (path net : List ℕ) → count_by is_cell (drivers_in d path net m) ≤ count_by (λ cell. bytes_eq (cell_out cell) net) m.cells
  driven_few m path net = by (is_clock d m net)
    where
      by : (b : Bool) → count_by is_cell (cond b [] (port_at d m path net ++ flat_map (cell_at path net) m.cells ++ flat_map (output_at d path net) (enumerate_from 0 m.insts))) ≤ count_by (λ cell. bytes_eq (cell_out cell) net) m.cells
      by true = omega arith
      by false =
          let a = count_two is_cell (port_at d m path net ++ flat_map (cell_at path net) m.cells) (flat_map (output_at d path net) (enumerate_from 0 m.insts)) in
          let b = count_two is_cell (port_at d m path net) (flat_map (cell_at path net) m.cells) in
          let e = port_none m path net in
          let f = cells_driven path net m.cells in
          let g = count_flat_none is_cell (output_at d path net) (enumerate_from 0 m.insts) (output_none path net) in
          omega arith

  -- each cell drives one of distinct nets at most
  cells_spread : (names : List (List ℕ)) → IsDistinct bytes_eq names → (cells : List Cell) → sum_by (λ net. count_by (λ cell. bytes_eq (cell_out cell) net) cells) names ≤ length cells
  cells_spread names distinct [] = none names
    where
      none : (names : List (List ℕ)) → sum_by (λ (net : List ℕ). 0) names ≤ 0
      none [] = omega arith
      none (x ∷ xs) = let e = sum_by-cons (λ (net : List ℕ). 0) x xs in let f = none xs in omega arith
  cells_spread names distinct (cell ∷ cells) =
      let one = once_counted names distinct (cell_out cell) in
      let later = cells_spread names distinct cells in
      let both = split names in
      omega arith
    where
      split : (names : List (List ℕ)) → sum_by (λ net. count_by (λ cell. bytes_eq (cell_out cell) net) (cell ∷ cells)) names ≡ count_by (bytes_eq (cell_out cell)) names + sum_by (λ net. count_by (λ cell. bytes_eq (cell_out cell) net) cells) names
      split [] = refl
      split (x ∷ xs) =
          let a = sum_by-cons (λ net. count_by (λ cell. bytes_eq (cell_out cell) net) (cell ∷ cells)) x xs in
          let b = sum_by-cons (λ net. cond (bytes_eq (cell_out cell) net) 1 0) x xs in
          let c = sum_by-cons (λ net. count_by (λ cell. bytes_eq (cell_out cell) net) cells) x xs in
          let e = sum_by-cons (λ (cell : Cell). cond (bytes_eq (cell_out cell) x) 1 0) cell cells in
          let f = split xs in
          omega arith

  place_few : (p : Instance) → number_from d d.root p.path ≡ Some p.model → sum_by (cell_drivers d) (columns_at d p) ≤ own_cell_count d p.model
  unfolding drivers nets
  place_few p leads = by (slice_get d.models p.model) refl
    where
      by : (o : Option Model) → slice_get d.models p.model ≡ o → sum_by (cell_drivers d) (map (column p.path) (option_map_or (nets d) o [])) ≤ option_map_or (λ m. length m.cells + length m.insts) o 0
      by None here = omega arith
      by (Some m) here =
          let body : model_at d p.path ≡ Some m = model_at_number d p.path ∙ ap (option_and_then (slice_get d.models)) leads ∙ here in
          let a = sum_map (cell_drivers d) (column p.path) (nets d m) in
          let b = sum_le (λ net. cell_drivers d (column p.path net)) (λ net. count_by (λ cell. bytes_eq (cell_out cell) net) m.cells) (nets d m) (λ net among.
          let same : cell_drivers d (column p.path net) ≡ count_by is_cell (drivers_in d p.path net m) = ap (λ (o : Option Model). count_by is_cell (option_map_or (drivers_in d p.path net) o [])) body in
          let few = driven_few m p.path net in
          omega arith) in
          let c = cells_spread (nets d m) (distinct_kept (λ net. not (is_clock d m net)) (firsts (occurrences m)) (firsts_apart (occurrences m))) m.cells in
          omega arith

  pub columns_few : sum_by (cell_drivers d) (columns d) ≤ count_cells d
  unfolding columns count_cells instances number_from
  columns_few =
      let a = sum_flat (cell_drivers d) (columns_at d) (λ (p : Instance). sum_by (cell_drivers d) (columns_at d p)) (instances d) (λ p among. refl) in
      let b = sum_le (λ (p : Instance). sum_by (cell_drivers d) (columns_at d p)) (λ (p : Instance). own_cell_count d p.model) (instances d) (λ p among. place_few p (place_number d (length d.models) [] d.root refl p among)) in
      omega arith
