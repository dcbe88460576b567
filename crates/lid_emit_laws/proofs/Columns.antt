-- What drives the columns of a pearl is no larger than the latches and covers of its models over all paths.
use Rattle.std.proofs.Common.{◌≡◌, ℕ, zero, suc, ◌+◌, ◌≤◌, ◌&&◌, not, Bool, true, false, cond, List, [], ◌∷◌, ◌++◌, length, map, Option, Some, None, option_and_then, slice_get, refl, ◌∙◌, ap, arith}
use Rattle.std.specs.Option.{option_map_or}
use Rattle.std.specs.List.{IsDistinct, flat_map, sum_by, enumerate_from}
use Rattle.std.specs.Str.{bytes_eq}
use Rattle.std.proofs.lemmas.List.{length-map}
use Rattle.std.proofs.lemmas.List.Sums.{sum_by-cons, sum_by-append}
use Rattle.lid_design.specs.declared.Design.{Design}
use Rattle.lid_design.specs.declared.Model.{Model}
use Rattle.lid_design.specs.declared.Cell.{Cell}
use Rattle.lid_design.specs.declared.Cell.TheVariants.{Names, Latch}
use Rattle.lid_design.specs.declared.Inst.{Inst}
use Rattle.lid_design.specs.declared.Bind.{Bind}
use Rattle.lid_design.specs.Network.{Driver, from_input, from_latch, from_cover, from_connection}
use Rattle.lid_design.specs.Columns.{Column, column, is_among, model_named, model_at, is_clock, data_inputs, first_bit, places_of, cell_at, output_at, actuals_of, port_at, drivers_in, drivers}
use Rattle.lid_design.specs.Models.{cell_out, occurrences, firsts, nets, insts_of, number_named, number_from}
use Rattle.lid_design.specs.Elaboration.{Instance, instance, instances_in, columns_at}
use Rattle.lid_check_elab.specs.Numbers.{columns_in}
use Rattle.lid_check_drivers.proofs.Clocking.{model_at_number}
use Rattle.lid_check_loops.proofs.Geometry.{place_number}
use Rattle.lid_check_laws.proofs.Sets.{once_counted}
use Rattle.lid_check_laws.proofs.Nets.{distinct_kept, firsts_apart}
use Rattle.lid_emit_meaning.specs.Sizes.{cell_size, cells_size, cells_size_in}
use Rattle.lid_emit_laws.proofs.Sums.{sum_where}
use Rattle.lid_base.proofs.Sums.{sum_flat, sum_map, sum_le, sum_same}

-- 1 for a latch, and for a cover 1, its inputs and its rows
abbrev pub driver_size : {C : Type 0} → Driver C → ℕ
driver_size (from_input j) = 0
driver_size (from_latch first c) = 1
driver_size (from_cover cover cs) = 1 + length cs + length cover.cubes
driver_size (from_connection c) = 0

abbrev pub drivers_size : List (Driver Column) → ℕ
drivers_size ss = sum_by (λ (s : Driver Column). driver_size s) ss

abbrev pub column_size : Design → Column → ℕ
column_size d c = drivers_size (drivers d c)

-- the size of a cell where it drives the net
abbrev size_where : List ℕ → Cell → ℕ
size_where net cell = cond (bytes_eq (cell_out cell) net) (cell_size cell) 0

two_sizes : (ss ts : List (Driver Column)) → drivers_size (ss ++ ts) ≡ drivers_size ss + drivers_size ts
two_sizes ss ts = sum_by-append (λ (s : Driver Column). driver_size s) ss ts

nothing_flat : {A : Type 0} (f : A → List (Driver Column)) (xs : List A) → ((x : A) → drivers_size (f x) ≡ 0) → drivers_size (flat_map f xs) ≡ 0
nothing_flat f [] none = refl
nothing_flat f (x ∷ xs) none =
    let a = two_sizes (f x) (flat_map f xs) in
    let b = none x in
    let c = nothing_flat f xs none in
    omega arith

no_sum : {A : Type 0} (xs : List A) → sum_by (λ (x : A). 0) xs ≤ 0
no_sum [] = omega arith
no_sum {A} (x ∷ xs) = let e = sum_by-cons (λ (x : A). 0) x xs in let f = no_sum xs in omega arith

module _ (d : Design) where
  places_none : (net : List ℕ) (k : ℕ) (names : List (List ℕ)) → drivers_size (places_of net k names) ≡ 0
  places_none net k [] = refl
  places_none net k (name ∷ names) = by (bytes_eq name net) (places_none net (k + 1) names)
    where
      by : (b : Bool) → drivers_size (places_of net (k + 1) names) ≡ 0 → drivers_size (cond b (from_input k ∷ []) [] ++ places_of net (k + 1) names) ≡ 0
      by true later = let e = sum_by-cons (λ (s : Driver Column). driver_size s) (from_input k) (places_of net (k + 1) names) in omega arith
      by false later = later

  one_connection : (b : Bool) (c : Column) → drivers_size (cond b (from_connection c ∷ []) []) ≡ 0
  one_connection true c = refl
  one_connection false c = refl

  actuals_none : (up net : List ℕ) (inst : Inst) → drivers_size (actuals_of up net inst) ≡ 0
  actuals_none up net inst = nothing_flat (λ (b : Bind). cond (bytes_eq b.formal net) (from_connection (column up b.actual) ∷ []) []) inst.binds (λ b. one_connection (bytes_eq b.formal net) (column up b.actual))

  port_none : (m : Model) (path net : List ℕ) → drivers_size (port_at d m path net) ≡ 0
  port_none m [] net = places_none net 0 (data_inputs d m)
  port_none m (i ∷ up) net = by (is_among net m.inputs) (option_and_then (λ around. slice_get around.insts i) (model_at d up))
    where
      of : (o : Option Inst) → drivers_size (option_map_or (actuals_of up net) o []) ≡ 0
      of None = refl
      of (Some inst) = actuals_none up net inst

      by : (b : Bool) (o : Option Inst) → drivers_size (cond b (option_map_or (actuals_of up net) o []) []) ≡ 0
      by true o = of o
      by false o = refl

  output_none : (path net : List ℕ) (p : ℕ × Inst) → drivers_size (output_at d path net p) ≡ 0
  output_none path net p = by (model_named d p.1.model)
    where
      by : (o : Option Model) → drivers_size (option_map_or (λ m. flat_map (λ b. cond (bytes_eq b.actual net && is_among b.formal m.outputs) (from_connection (column (p.0 ∷ path) b.formal) ∷ []) []) p.1.binds) o []) ≡ 0
      by None = refl
      by (Some m) = nothing_flat (λ (b : Bind). cond (bytes_eq b.actual net && is_among b.formal m.outputs) (from_connection (column (p.0 ∷ path) b.formal) ∷ []) []) p.1.binds (λ b. one_connection (bytes_eq b.actual net && is_among b.formal m.outputs) (column (p.0 ∷ path) b.formal))

  cell_one : (path net : List ℕ) (cell : Cell) → drivers_size (cell_at path net cell) ≡ size_where net cell
  cell_one path net (Names inputs out cover) = by (bytes_eq out net)
    where
      by : (b : Bool) → drivers_size (cond b (from_cover cover (map (column path) inputs) ∷ []) []) ≡ cond b (1 + length inputs + length cover.cubes) 0
      by true =
          let e = sum_by-cons (λ (s : Driver Column). driver_size s) (from_cover cover (map (column path) inputs)) [] in
          let long = length-map inputs (column path) in
          omega arith
      by false = refl
  cell_one path net (Latch input out kind control init) = by (bytes_eq out net)
    where
      by : (b : Bool) → drivers_size (cond b (from_latch (first_bit init) (column path input) ∷ []) []) ≡ cond b 1 0
      by true = refl
      by false = refl

  cells_driven : (path net : List ℕ) (cells : List Cell) → drivers_size (flat_map (cell_at path net) cells) ≡ sum_by (size_where net) cells
  cells_driven path net [] = refl
  cells_driven path net (cell ∷ cells) =
      let a = two_sizes (cell_at path net cell) (flat_map (cell_at path net) cells) in
      let b = cell_one path net cell in
      let c = cells_driven path net cells in
      let e = sum_by-cons (size_where net) cell cells in
      omega arith

  driven_few : (m : Model) (path net : List ℕ) → drivers_size (drivers_in d path net m) ≤ sum_by (size_where net) m.cells
  driven_few m path net = by (is_clock d m net)
    where
      by : (b : Bool) → drivers_size (cond b [] (port_at d m path net ++ flat_map (cell_at path net) m.cells ++ flat_map (output_at d path net) (enumerate_from 0 m.insts))) ≤ sum_by (size_where net) m.cells
      by true = omega arith
      by false =
          let a = two_sizes (port_at d m path net ++ flat_map (cell_at path net) m.cells) (flat_map (output_at d path net) (enumerate_from 0 m.insts)) in
          let b = two_sizes (port_at d m path net) (flat_map (cell_at path net) m.cells) in
          let e = port_none m path net in
          let f = cells_driven path net m.cells in
          let g = nothing_flat (output_at d path net) (enumerate_from 0 m.insts) (output_none path net) in
          omega arith

  -- each cell drives one of distinct nets at most
  cells_spread : (names : List (List ℕ)) → IsDistinct bytes_eq names → (cells : List Cell) → sum_by (λ net. sum_by (size_where net) cells) names ≤ sum_by cell_size cells
  cells_spread names distinct [] = no_sum names
  cells_spread names distinct (cell ∷ cells) =
      let one = sum_where (bytes_eq (cell_out cell)) (cell_size cell) names (once_counted names distinct (cell_out cell)) in
      let later = cells_spread names distinct cells in
      let both = split names in
      let whole = sum_by-cons cell_size cell cells in
      omega arith
    where
      split : (names : List (List ℕ)) → sum_by (λ net. sum_by (size_where net) (cell ∷ cells)) names ≡ sum_by (λ net. size_where net cell) names + sum_by (λ net. sum_by (size_where net) cells) names
      split [] = refl
      split (x ∷ xs) =
          let a = sum_by-cons (λ net. sum_by (size_where net) (cell ∷ cells)) x xs in
          let b = sum_by-cons (λ net. size_where net cell) x xs in
          let c = sum_by-cons (λ net. sum_by (size_where net) cells) x xs in
          let e = sum_by-cons (size_where x) cell cells in
          let f = split xs in
          omega arith

  place_few : (p : Instance) → number_from d d.root p.path ≡ Some p.model → sum_by (column_size d) (columns_at d p) ≤ cells_size d p.model
  unfolding drivers nets
  place_few p leads = by (slice_get d.models p.model) refl
    where
      by : (o : Option Model) → slice_get d.models p.model ≡ o → sum_by (column_size d) (map (column p.path) (option_map_or (nets d) o [])) ≤ option_map_or (λ m. sum_by cell_size m.cells) o 0
      by None here = omega arith
      by (Some m) here =
          let body : model_at d p.path ≡ Some m = model_at_number d p.path ∙ ap (option_and_then (slice_get d.models)) leads ∙ here in
          let a = sum_map (column_size d) (column p.path) (nets d m) in
          let b = sum_le (λ net. column_size d (column p.path net)) (λ net. sum_by (size_where net) m.cells) (nets d m) (λ net among.
          let same : column_size d (column p.path net) ≡ drivers_size (drivers_in d p.path net m) = ap (λ (o : Option Model). drivers_size (option_map_or (drivers_in d p.path net) o [])) body in
          let few = driven_few m p.path net in
          omega arith) in
          let c = cells_spread (nets d m) (distinct_kept (λ net. not (is_clock d m net)) (firsts (occurrences m)) (firsts_apart (occurrences m))) m.cells in
          omega arith

  -- the instances in one of a model
  abbrev below : ℕ → List ℕ → ℕ × Inst → List Instance
  below n path p = option_map_or (instances_in n d (p.0 ∷ path)) (number_named d p.1.model) []

  abbrev over : (ℕ → ℕ) → List Instance → ℕ
  over f is = sum_by (λ (i : Instance). f i.model) is

  one_below : (f : ℕ → ℕ) (n : ℕ) (path other : List ℕ) (o : Option ℕ) → ((k : ℕ) → over f (instances_in n d path k) ≡ over f (instances_in n d other k)) → over f (option_map_or (instances_in n d path) o []) ≡ over f (option_map_or (instances_in n d other) o [])
  one_below f n path other None next = refl
  one_below f n path other (Some k) next = next k

  -- what is summed over models does not depend on the path
  same_models : (f : ℕ → ℕ) (n : ℕ) (path other : List ℕ) (k : ℕ) → over f (instances_in n d path k) ≡ over f (instances_in n d other k)
  same_models f zero path other k =
      let a = sum_by-cons (λ (i : Instance). f i.model) (instance path k) [] in
      let b = sum_by-cons (λ (i : Instance). f i.model) (instance other k) [] in
      omega arith
  same_models f (suc n) path other k =
      let insts = enumerate_from 0 (insts_of d k) in
      let a = sum_by-cons (λ (i : Instance). f i.model) (instance path k) (flat_map (below n path) insts) in
      let b = sum_by-cons (λ (i : Instance). f i.model) (instance other k) (flat_map (below n other) insts) in
      let c = sum_flat (λ (i : Instance). f i.model) (below n path) (λ p. over f (below n path p)) insts (λ p among. refl) in
      let e = sum_flat (λ (i : Instance). f i.model) (below n other) (λ p. over f (below n other p)) insts (λ p among. refl) in
      let g = sum_same (λ p. over f (below n path p)) (λ p. over f (below n other p)) insts (λ p. one_below f n (p.0 ∷ path) (p.0 ∷ other) (number_named d p.1.model) (λ j. same_models f n (p.0 ∷ path) (p.0 ∷ other) j)) in
      omega arith

  pub columns_few : (path : List ℕ) (k : ℕ) → number_from d d.root path ≡ Some k → sum_by (column_size d) (columns_in (length d.models) d path k) ≤ cells_size_in d k
  columns_few path k leads =
      let a = sum_flat (column_size d) (columns_at d) (λ (p : Instance). sum_by (column_size d) (columns_at d p)) (instances_in (length d.models) d path k) (λ p among. refl) in
      let b = sum_le (λ (p : Instance). sum_by (column_size d) (columns_at d p)) (λ (p : Instance). cells_size d p.model) (instances_in (length d.models) d path k) (λ p among. place_few p (place_number d (length d.models) path k leads p among)) in
      let c = same_models (cells_size d) (length d.models) path [] k in
      omega arith
