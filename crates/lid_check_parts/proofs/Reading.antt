-- Where the columns are that the driver of a column reads.
use Rattle.std.proofs.Common.{◌≡◌, ◌⊎◌, ℕ, ◌+◌, Bool, true, false, ◌&&◌, cond, List, [], ◌∷◌, ◌++◌, map, Option, Some, None, option_and_then, slice_get, inl, inr, refl, sym, ap, subst}
use Rattle.std.specs.Option.{option_map_or}
use Rattle.std.specs.List.{flat_map, enumerate_from}
use Rattle.std.specs.Str.{bytes_eq}
use Rattle.lid_base.specs.Lists.{Among}
use Rattle.lid_base.proofs.Lists.{among_append, map_among, flat_among, same_bytes, if_among}
use Rattle.lid_design.specs.declared.Design.{Design}
use Rattle.lid_design.specs.declared.Model.{Model}
use Rattle.lid_design.specs.declared.Cell.{Cell}
use Rattle.lid_design.specs.declared.Cell.TheVariants.{Names, Latch}
use Rattle.lid_design.specs.declared.Inst.{Inst}
use Rattle.lid_design.specs.Network.{Driver, from_input, from_latch, from_cover, from_connection}
use Rattle.lid_design.specs.Columns.{Column, column, is_among, model_named, model_at, is_clock, data_inputs, first_bit, places_of, cell_at, output_at, actuals_of, port_at, drivers_in, drivers}
use Rattle.lid_design.specs.Walks.{read_before}
use Rattle.lid_design.specs.Feeds.{read_now}
use Rattle.lid_cover.specs.declared.Cover.{Cover}
use Rattle.lid_check_parts.specs.Standing.{IsInput}
use Rattle.lid_check_drivers.proofs.Names.{to_among}
use Rattle.lid_check_drivers.proofs.Wired.{data_input}

-- a driver is no input, and reads columns of the place or of an instance in it
pub record IsLocal (path : List ℕ) (s : Driver Column) : Type 0 where
  pub cell : IsInput s → ⊥
  pub near : (a : Column) → Among a (read_now s ++ read_before s) → (a.path ≡ path) ⊎ ((j : ℕ) × (a.path ≡ j ∷ path))

-- a driver is no input, and reads columns of the place around
pub record IsOuter (path : List ℕ) (s : Driver Column) : Type 0 where
  pub cell : IsInput s → ⊥
  pub i : ℕ
  pub up : List ℕ
  pub inner : path ≡ i ∷ up
  pub near : (a : Column) → Among a (read_now s ++ read_before s) → a.path ≡ up

cover_local : (path : List ℕ) (cover : Cover) (inputs : List (List ℕ)) → IsLocal path (from_cover cover (map (column path) inputs))
cover_local path cover inputs = record { cell = λ none. none; near = near }
  where
    near : (a : Column) → Among a (map (column path) inputs ++ []) → (a.path ≡ path) ⊎ ((j : ℕ) × (a.path ≡ j ∷ path))
    near a among = elim (among_append a (map (column path) inputs) [] among) [
      | inl here ↦ inl (ap (λ (c : Column). c.path) (map_among (column path) a inputs here).2)
      | inr none ↦ absurd none
    ]

latch_local : (path : List ℕ) (first : Bool) (input : List ℕ) → IsLocal path (from_latch first (column path input))
latch_local path first input = record { cell = λ none. none; near = near }
  where
    near : (a : Column) → Among a (column path input ∷ []) → (a.path ≡ path) ⊎ ((j : ℕ) × (a.path ≡ j ∷ path))
    near a (inl e) = inl (ap (λ (c : Column). c.path) e)
    near a (inr none) = absurd none

output_local : (path : List ℕ) (j : ℕ) (net : List ℕ) → IsLocal path (from_connection (column (j ∷ path) net))
output_local path j net = record { cell = λ none. none; near = near }
  where
    near : (a : Column) → Among a (column (j ∷ path) net ∷ []) → (a.path ≡ path) ⊎ ((j : ℕ) × (a.path ≡ j ∷ path))
    near a (inl e) = inr (j, ap (λ (c : Column). c.path) e)
    near a (inr none) = absurd none

actual_outer : (i : ℕ) (up net : List ℕ) → IsOuter (i ∷ up) (from_connection (column up net))
actual_outer i up net = record { cell = λ none. none; i = i; up = up; inner = refl; near = near }
  where
    near : (a : Column) → Among a (column up net ∷ []) → a.path ≡ up
    near a (inl e) = ap (λ (c : Column). c.path) e
    near a (inr none) = absurd none

module _ (d : Design) (path net : List ℕ) (s : Driver Column) where
  cell_local : (cell : Cell) → Among s (cell_at path net cell) → IsLocal path s
  cell_local (Names inputs out cover) among = subst (IsLocal path) (sym (if_among (bytes_eq out net) s (from_cover cover (map (column path) inputs)) among).1) (cover_local path cover inputs)
  cell_local (Latch input out kind control init) among = subst (IsLocal path) (sym (if_among (bytes_eq out net) s (from_latch (first_bit init) (column path input)) among).1) (latch_local path (first_bit init) input)

  inst_local : (p : ℕ × Inst) → Among s (output_at d path net p) → IsLocal path s
  inst_local p among = by (model_named d p.1.model) among
    where
      by : (o : Option Model) → Among s (option_map_or (λ m. flat_map (λ b. cond (bytes_eq b.actual net && is_among b.formal m.outputs) (from_connection (column (p.0 ∷ path) b.formal) ∷ []) []) p.1.binds) o []) → IsLocal path s
      by None none = absurd none
      by (Some m) here =
          let found = flat_among (λ b. cond (bytes_eq b.actual net && is_among b.formal m.outputs) (from_connection (column (p.0 ∷ path) b.formal) ∷ []) []) s p.1.binds here in
          subst (IsLocal path) (sym (if_among (bytes_eq found.0.actual net && is_among found.0.formal m.outputs) s (from_connection (column (p.0 ∷ path) found.0.formal)) found.2).1) (output_local path p.0 found.0.formal)

  given_net : (k : ℕ) (names : List (List ℕ)) → Among s (places_of net k names) → Among net names
  given_net k [] none = absurd none
  given_net k (name ∷ names) among = elim (among_append s (cond (bytes_eq name net) (from_input k ∷ []) []) (places_of net (k + 1) names) among) [
    | inl here ↦ inl (sym (same_bytes name net (if_among (bytes_eq name net) s (from_input k) here).0))
    | inr later ↦ inr (given_net (k + 1) names later)
  ]

-- a data input is driven from around its place, or from outside at the root; every other net by what is near
abbrev pub IsNear : Design → Model → List ℕ → List ℕ → Driver Column → Type 0
IsNear d m path net s = (Among net (data_inputs d m) × (IsOuter path s ⊎ (path ≡ []))) ⊎ IsLocal path s

port_near : (d : Design) (m : Model) (path net : List ℕ) (s : Driver Column) → is_clock d m net ≡ false → Among s (port_at d m path net) → Among net (data_inputs d m) × (IsOuter path s ⊎ (path ≡ []))
port_near d m [] net s free among = (given_net d [] net s 0 (data_inputs d m) among, inr refl)
port_near d m (i ∷ up) net s free among = by (is_among net m.inputs) refl among
  where
    of_inst : (o : Option Inst) → Among s (option_map_or (actuals_of up net) o []) → IsOuter (i ∷ up) s
    of_inst None none = absurd none
    of_inst (Some inst) here =
        let found = flat_among (λ b. cond (bytes_eq b.formal net) (from_connection (column up b.actual) ∷ []) []) s inst.binds here in
        subst (IsOuter (i ∷ up)) (sym (if_among (bytes_eq found.0.formal net) s (from_connection (column up found.0.actual)) found.2).1) (actual_outer i up found.0.actual)

    by : (b : Bool) → is_among net m.inputs ≡ b → Among s (cond b (option_map_or (actuals_of up net) (option_and_then (λ around. slice_get around.insts i) (model_at d up)) []) []) → Among net (data_inputs d m) × (IsOuter (i ∷ up) s ⊎ (i ∷ up ≡ []))
    by true e here = (data_input d m net free (to_among net m.inputs e), inl (of_inst (option_and_then (λ around. slice_get around.insts i) (model_at d up)) here))
    by false e none = absurd none

pub driver_near : (d : Design) (path net : List ℕ) (m : Model) → model_at d path ≡ Some m → (s : Driver Column) → Among s (drivers d (column path net)) → IsNear d m path net s
unfolding drivers
driver_near d path net m model s among = clock (is_clock d m net) refl (subst (λ (o : Option Model). Among s (option_map_or (drivers_in d path net) o [])) model among)
  where
    inner : is_clock d m net ≡ false → Among s (port_at d m path net) ⊎ Among s (flat_map (cell_at path net) m.cells) → IsNear d m path net s
    inner free (inl port) = inl (port_near d m path net s free port)
    inner free (inr cells) = let found = flat_among (cell_at path net) s m.cells cells in inr (cell_local d path net s found.0 found.2)

    outer : is_clock d m net ≡ false → Among s (port_at d m path net ++ flat_map (cell_at path net) m.cells) ⊎ Among s (flat_map (output_at d path net) (enumerate_from 0 m.insts)) → IsNear d m path net s
    outer free (inl before) = inner free (among_append s (port_at d m path net) (flat_map (cell_at path net) m.cells) before)
    outer free (inr outputs) = let found = flat_among (output_at d path net) s (enumerate_from 0 m.insts) outputs in inr (inst_local d path net s found.0 found.2)

    clock : (b : Bool) → is_clock d m net ≡ b → Among s (cond b [] (port_at d m path net ++ flat_map (cell_at path net) m.cells ++ flat_map (output_at d path net) (enumerate_from 0 m.insts))) → IsNear d m path net s
    clock true e none = absurd none
    clock false e here = outer e (among_append s (port_at d m path net ++ flat_map (cell_at path net) m.cells) (flat_map (output_at d path net) (enumerate_from 0 m.insts)) here)
