-- The covers that drive columns meet the rules of covers.
use Rattle.std.proofs.Common.{◌≡◌, ℕ, ◌+◌, Bool, true, false, cond, ◌&&◌, List, [], ◌∷◌, ◌++◌, length, map, flat_map, Option, Some, None, option_and_then, slice_get, refl, sym, ◌∙◌}
use Rattle.std.specs.Option.{option_map_or}
use Rattle.std.specs.List.{AllByRecursion, enumerate_from}
use Rattle.std.specs.Str.{bytes_eq}
use Rattle.std.proofs.lemmas.List.{length-map}
use Rattle.lid_base.specs.Lists.{Among}
use Rattle.lid_base.proofs.Lists.{all_among, all_append, then_some, get_among, found_among}
use Rattle.lid_cover.specs.Cover.{IsCover}
use Rattle.lid_design.specs.declared.Design.{Design}
use Rattle.lid_design.specs.declared.Model.{Model}
use Rattle.lid_design.specs.declared.Cell.{Cell}
use Rattle.lid_design.specs.declared.Cell.TheVariants.{Names, Latch}
use Rattle.lid_design.specs.declared.Inst.{Inst}
use Rattle.lid_design.specs.declared.Bind.{Bind}
use Rattle.lid_design.specs.Network.{Driver, from_input, from_latch, from_cover, from_connection}
use Rattle.lid_design.specs.Columns.{Column, column, is_among, model_named, instance_model, model_at, is_clock, places_of, cell_at, output_at, actuals_of, port_at, drivers_in, drivers, data_inputs, first_bit}
use Rattle.lid_design.specs.WellFormed.{IsWellFormed, IsWellFormedCell}
use Rattle.lid_base.proofs.Alls.{all_flat}

-- a cover that a driver evaluates meets the rules of covers, with as many inputs as it reads
abbrev pub IsCovered : {C : Type 0} → Driver C → Type 0
IsCovered (from_input j) = Unit {0}
IsCovered (from_latch first input) = Unit {0}
IsCovered (from_cover cover inputs) = IsCover cover × (cover.inputs ≡ length inputs)
IsCovered (from_connection c) = Unit {0}

-- the model at a path is one of the models
model_among : (d : Design) (path : List ℕ) (m : Model) → model_at d path ≡ Some m → Among m d.models
unfolding model_at
model_among d [] m h = get_among d.models d.root m h
model_among d (i ∷ path) m h =
    let outer = then_some (model_at d path) (instance_model d i) m h in
    let inst = then_some (slice_get outer.0.insts i) (λ (inst : Inst). model_named d inst.model) m outer.2 in
    found_among (λ n. bytes_eq n.name inst.0.model) d.models m inst.2

module _ (d : Design) (path net : List ℕ) where
  of_places : (k : ℕ) (names : List (List ℕ)) → AllByRecursion IsCovered (places_of net k names)
  of_places k [] = tt
  of_places k (name ∷ names) = by (bytes_eq name net) (of_places (k + 1) names)
    where
      by : (b : Bool) → AllByRecursion IsCovered (places_of net (k + 1) names) → AllByRecursion IsCovered (cond b (from_input k ∷ []) [] ++ places_of net (k + 1) names)
      by true rest = (tt, rest)
      by false rest = rest

  of_cell : (cell : Cell) → IsWellFormedCell cell → AllByRecursion IsCovered (cell_at path net cell)
  of_cell (Names inputs out cover) formed = by (bytes_eq out net)
    where
      by : (b : Bool) → AllByRecursion IsCovered (cond b (from_cover cover (map (column path) inputs) ∷ []) [])
      by true = ((formed.0, formed.1 ∙ sym (length-map inputs (column path))), tt)
      by false = tt
  of_cell (Latch input out kind control init) formed = by (bytes_eq out net)
    where
      by : (b : Bool) → AllByRecursion IsCovered (cond b (from_latch (first_bit init) (column path input) ∷ []) [])
      by true = (tt, tt)
      by false = tt

  of_output : (p : ℕ × Inst) → AllByRecursion IsCovered (output_at d path net p)
  of_output p = by (model_named d p.1.model)
    where
      of_bind : (m : Model) (b : Bind) → AllByRecursion IsCovered (cond (bytes_eq b.actual net && is_among b.formal m.outputs) (from_connection (column (p.0 ∷ path) b.formal) ∷ []) [])
      of_bind m b = chosen (bytes_eq b.actual net && is_among b.formal m.outputs)
        where
          chosen : (v : Bool) → AllByRecursion IsCovered (cond v (from_connection (column (p.0 ∷ path) b.formal) ∷ []) [])
          chosen true = (tt, tt)
          chosen false = tt

      by : (o : Option Model) → AllByRecursion IsCovered (option_map_or (λ m. flat_map (λ b. cond (bytes_eq b.actual net && is_among b.formal m.outputs) (from_connection (column (p.0 ∷ path) b.formal) ∷ []) []) p.1.binds) o [])
      by None = tt
      by (Some m) = all_flat IsCovered _ p.1.binds (λ b i. of_bind m b)

  of_actuals : (up : List ℕ) (inst : Inst) → AllByRecursion IsCovered (actuals_of up net inst)
  of_actuals up inst = all_flat IsCovered _ inst.binds (λ b i. by b (bytes_eq b.formal net))
    where
      by : (b : Bind) (v : Bool) → AllByRecursion IsCovered (cond v (from_connection (column up b.actual) ∷ []) [])
      by b true = (tt, tt)
      by b false = tt

  of_port : (m : Model) (at : List ℕ) → AllByRecursion IsCovered (port_at d m at net)
  of_port m [] = of_places 0 (data_inputs d m)
  of_port m (i ∷ up) = by (is_among net m.inputs)
    where
      of_inst : (o : Option Inst) → AllByRecursion IsCovered (option_map_or (actuals_of up net) o [])
      of_inst None = tt
      of_inst (Some inst) = of_actuals up inst

      by : (b : Bool) → AllByRecursion IsCovered (cond b (option_map_or (actuals_of up net) (option_and_then (λ around. slice_get around.insts i) (model_at d up)) []) [])
      by true = of_inst (option_and_then (λ around. slice_get around.insts i) (model_at d up))
      by false = tt

  of_model : IsWellFormed d → (m : Model) → model_at d path ≡ Some m → AllByRecursion IsCovered (drivers_in d path net m)
  of_model formed m here = by (is_clock d m net)
    where
      cells : AllByRecursion IsWellFormedCell m.cells
      cells = all_among (λ n. AllByRecursion IsWellFormedCell n.cells) d.models m formed.cells (model_among d path m here)

      by : (b : Bool) → AllByRecursion IsCovered (cond b [] (port_at d m path net ++ flat_map (cell_at path net) m.cells ++ flat_map (output_at d path net) (enumerate_from 0 m.insts)))
      by true = tt
      by false =
          all_append IsCovered (port_at d m path net ++ flat_map (cell_at path net) m.cells) (flat_map (output_at d path net) (enumerate_from 0 m.insts))
          (all_append IsCovered (port_at d m path net) (flat_map (cell_at path net) m.cells) (of_port m path)
          (all_flat IsCovered (cell_at path net) m.cells (λ cell i. of_cell cell (all_among IsWellFormedCell m.cells cell cells i))))
          (all_flat IsCovered (output_at d path net) (enumerate_from 0 m.insts) (λ p i. of_output p))

-- each driver of a column is covered
pub all_covered : (d : Design) → IsWellFormed d → (c : Column) → AllByRecursion IsCovered (drivers d c)
unfolding drivers
all_covered d formed c = by (model_at d c.path) refl
  where
    by : (o : Option Model) → model_at d c.path ≡ o → AllByRecursion IsCovered (option_map_or (drivers_in d c.path c.net) o [])
    by None here = tt
    by (Some m) here = of_model d c.path c.net formed m here
