-- The drivers of a column are what drives its net in its model, seen at its path.
use Rattle.std.proofs.Common.{◌≡◌, ℕ, ◌+◌, Bool, true, false, ◌&&◌, cond, List, [], ◌∷◌, ◌++◌, length, map, filter, Option, Some, None, refl, sym, ◌∙◌, ap, length-append}
use Rattle.std.specs.Option.{option_map_or}
use Rattle.std.specs.List.{flat_map, count_by, enumerate_from}
use Rattle.std.specs.Str.{bytes_eq}
use Rattle.std.proofs.lemmas.List.{map-append}
use Rattle.std.proofs.lemmas.List.Concat.{flat_map-append}
use Rattle.lid_design.specs.declared.Design.{Design}
use Rattle.lid_design.specs.declared.Model.{Model}
use Rattle.lid_design.specs.declared.Cell.{Cell}
use Rattle.lid_design.specs.declared.Cell.TheVariants.{Names, Latch}
use Rattle.lid_design.specs.declared.Inst.{Inst}
use Rattle.lid_design.specs.declared.Bind.{Bind}
use Rattle.lid_design.specs.Network.{Driver, from_input, from_latch, from_cover, from_connection}
use Rattle.lid_design.specs.Columns.{Column, column, is_among, model_named, data_inputs, first_bit, places_of, cell_at, output_at}
use Rattle.lid_design.specs.Models.{cell_out, inner_drivers, driven_by, actuals_bound_to, actual_of}
use Rattle.lid_check_hierarchy.proofs.Numbers.{bytes_eq_comm}
use Rattle.lid_check_drivers.specs.Locals.{Local, local_input, local_latch, local_cover, local_connection, inputs_from, local_of, output_driver, outputs_of, inner_locals, locals, values_of, driver_at_path}
use Rattle.lid_check_drivers.proofs.Names.{count-cons}

abbrev pub net_of : {V : Type 0} → List ℕ × V → List ℕ
net_of p = p.0

-- seen at a path, with more behind
seen_cond : (path : List ℕ) (b : Bool) (l : Local (List ℕ)) (rest : List (Local (List ℕ))) → cond b (driver_at_path path l ∷ []) [] ++ map (driver_at_path path) rest ≡ map (driver_at_path path) (cond b (l ∷ []) [] ++ rest)
seen_cond path true l rest = refl
seen_cond path false l rest = refl

pub cells_seen : (path net : List ℕ) (cells : List Cell) → flat_map (cell_at path net) cells ≡ map (driver_at_path path) (values_of net (map local_of cells))
cells_seen path net [] = refl
cells_seen path net (Names inputs out cover ∷ cells) =
    ap (λ (ss : List (Driver Column)). cond (bytes_eq out net) (from_cover cover (map (column path) inputs) ∷ []) [] ++ ss) (cells_seen path net cells)
    ∙ seen_cond path (bytes_eq out net) (local_cover cover inputs) (values_of net (map local_of cells))
cells_seen path net (Latch input out kind control init ∷ cells) =
    ap (λ (ss : List (Driver Column)). cond (bytes_eq out net) (from_latch (first_bit init) (column path input) ∷ []) [] ++ ss) (cells_seen path net cells)
    ∙ seen_cond path (bytes_eq out net) (local_latch (first_bit init) input) (values_of net (map local_of cells))

pub inputs_seen : (net : List ℕ) (k : ℕ) (names : List (List ℕ)) → places_of net k names ≡ map (driver_at_path []) (values_of net (inputs_from k names))
inputs_seen net k [] = refl
inputs_seen net k (name ∷ names) =
    ap (λ (ss : List (Driver Column)). cond (bytes_eq name net) (from_input k ∷ []) [] ++ ss) (inputs_seen net (k + 1) names)
    ∙ seen_cond [] (bytes_eq name net) (local_input k) (values_of net (inputs_from (k + 1) names))

pub of_net_append : {V : Type 0} (net : List ℕ) (ps qs : List (List ℕ × V)) → values_of net (ps ++ qs) ≡ values_of net ps ++ values_of net qs
of_net_append net ps qs = flat_map-append (λ p. cond (bytes_eq p.0 net) (p.1 ∷ []) []) ps qs

binds_seen : (path net : List ℕ) (i : ℕ) (outputs : List (List ℕ)) (binds : List Bind) → flat_map (λ b. cond (bytes_eq b.actual net && is_among b.formal outputs) (from_connection (column (i ∷ path) b.formal) ∷ []) []) binds ≡ map (driver_at_path path) (values_of net (flat_map (output_driver outputs i) binds))
binds_seen path net i outputs [] = refl
binds_seen path net i outputs (b ∷ binds) =
    ap (λ (ss : List (Driver Column)). cond (bytes_eq b.actual net && is_among b.formal outputs) (from_connection (column (i ∷ path) b.formal) ∷ []) [] ++ ss) (binds_seen path net i outputs binds)
    ∙ one (bytes_eq b.actual net) refl (is_among b.formal outputs)
  where
    later : List (Local (List ℕ))
    later = values_of net (flat_map (output_driver outputs i) binds)

    one : (a : Bool) → bytes_eq b.actual net ≡ a → (o : Bool) → cond (a && o) (from_connection (column (i ∷ path) b.formal) ∷ []) [] ++ map (driver_at_path path) later ≡ map (driver_at_path path) (values_of net (cond o ((b.actual, local_connection i b.formal) ∷ []) [] ++ flat_map (output_driver outputs i) binds))
    one true e true = ap (λ (a : Bool). map (driver_at_path path) (cond a (local_connection i b.formal ∷ []) [] ++ later)) (sym e)
    one false e true = ap (λ (a : Bool). map (driver_at_path path) (cond a (local_connection i b.formal ∷ []) [] ++ later)) (sym e)
    one true e false = refl
    one false e false = refl

pub outputs_seen : (d : Design) (path net : List ℕ) (ps : List (ℕ × Inst)) → flat_map (output_at d path net) ps ≡ map (driver_at_path path) (values_of net (flat_map (outputs_of d) ps))
outputs_seen d path net [] = refl
outputs_seen d path net (p ∷ ps) =
    let later = flat_map (outputs_of d) ps in
    ap (λ (ss : List (Driver Column)). output_at d path net p ++ ss) (outputs_seen d path net ps)
    ∙ ap (λ (ss : List (Driver Column)). ss ++ map (driver_at_path path) (values_of net later)) (one (model_named d p.1.model))
    ∙ sym (map-append (driver_at_path path) (values_of net (outputs_of d p)) (values_of net later))
    ∙ ap (map (driver_at_path path)) (sym (of_net_append net (outputs_of d p) later))
  where
    one : (o : Option Model) → option_map_or (λ m. flat_map (λ b. cond (bytes_eq b.actual net && is_among b.formal m.outputs) (from_connection (column (p.0 ∷ path) b.formal) ∷ []) []) p.1.binds) o [] ≡ map (driver_at_path path) (values_of net (option_map_or (λ m. flat_map (output_driver m.outputs p.0) p.1.binds) o []))
    one None = refl
    one (Some m) = binds_seen path net p.0 m.outputs p.1.binds

-- what cells and instances drive, at a path
pub inner_seen : (d : Design) (path net : List ℕ) (m : Model) → flat_map (cell_at path net) m.cells ++ flat_map (output_at d path net) (enumerate_from 0 m.insts) ≡ map (driver_at_path path) (values_of net (inner_locals d m))
inner_seen d path net m =
    let cells = map local_of m.cells in
    let outs = flat_map (outputs_of d) (enumerate_from 0 m.insts) in
    ap (λ (ss : List (Driver Column)). ss ++ flat_map (output_at d path net) (enumerate_from 0 m.insts)) (cells_seen path net m.cells)
    ∙ ap (λ (ss : List (Driver Column)). map (driver_at_path path) (values_of net cells) ++ ss) (outputs_seen d path net (enumerate_from 0 m.insts))
    ∙ sym (map-append (driver_at_path path) (values_of net cells) (values_of net outs))
    ∙ ap (map (driver_at_path path)) (sym (of_net_append net cells outs))

-- the nets that are driven
pub inputs_named : (k : ℕ) (names : List (List ℕ)) → map net_of (inputs_from k names) ≡ names
inputs_named k [] = refl
inputs_named k (name ∷ names) = ap (λ (ns : List (List ℕ)). name ∷ ns) (inputs_named (k + 1) names)

cells_named : (cells : List Cell) → map net_of (map local_of cells) ≡ map cell_out cells
cells_named [] = refl
cells_named (Names inputs out cover ∷ cells) = ap (λ (ns : List (List ℕ)). out ∷ ns) (cells_named cells)
cells_named (Latch input out kind control init ∷ cells) = ap (λ (ns : List (List ℕ)). out ∷ ns) (cells_named cells)

binds_named : (outputs : List (List ℕ)) (i : ℕ) (binds : List Bind) → map net_of (flat_map (output_driver outputs i) binds) ≡ actuals_bound_to outputs binds
binds_named outputs i [] = refl
binds_named outputs i (b ∷ binds) = by (is_among b.formal outputs) (binds_named outputs i binds)
  where
    by : (o : Bool) → map net_of (flat_map (output_driver outputs i) binds) ≡ actuals_bound_to outputs binds → map net_of (cond o ((b.actual, local_connection i b.formal) ∷ []) [] ++ flat_map (output_driver outputs i) binds) ≡ map actual_of (cond o (b ∷ filter (λ b. is_among b.formal outputs) binds) (filter (λ b. is_among b.formal outputs) binds))
    by true later = ap (λ (ns : List (List ℕ)). b.actual ∷ ns) later
    by false later = later

outputs_named : (d : Design) (first : ℕ) (insts : List Inst) → map net_of (flat_map (outputs_of d) (enumerate_from first insts)) ≡ flat_map (driven_by d) insts
outputs_named d first [] = refl
outputs_named d first (inst ∷ insts) =
    let later = flat_map (outputs_of d) (enumerate_from (first + 1) insts) in
    map-append net_of (outputs_of d (first, inst)) later
    ∙ ap (λ (ns : List (List ℕ)). ns ++ map net_of later) (one (model_named d inst.model))
    ∙ ap (λ (ns : List (List ℕ)). driven_by d inst ++ ns) (outputs_named d (first + 1) insts)
  where
    one : (o : Option Model) → map net_of (option_map_or (λ m. flat_map (output_driver m.outputs first) inst.binds) o []) ≡ option_map_or (λ m. actuals_bound_to m.outputs inst.binds) o []
    one None = refl
    one (Some m) = binds_named m.outputs first inst.binds

pub inner_named : (d : Design) (m : Model) → map net_of (inner_locals d m) ≡ inner_drivers d m
inner_named d m =
    let outs = flat_map (outputs_of d) (enumerate_from 0 m.insts) in
    map-append net_of (map local_of m.cells) outs
    ∙ ap (λ (ns : List (List ℕ)). ns ++ map net_of outs) (cells_named m.cells)
    ∙ ap (λ (ns : List (List ℕ)). map cell_out m.cells ++ ns) (outputs_named d 0 m.insts)

pub locals_named : (d : Design) (m : Model) → map net_of (locals d m) ≡ data_inputs d m ++ inner_drivers d m
unfolding locals
locals_named d m =
    map-append net_of (inputs_from 0 (data_inputs d m)) (inner_locals d m)
    ∙ ap (λ (ns : List (List ℕ)). ns ++ map net_of (inner_locals d m)) (inputs_named 0 (data_inputs d m))
    ∙ ap (λ (ns : List (List ℕ)). data_inputs d m ++ ns) (inner_named d m)

-- a net is driven as often as it stands among the nets that are driven
pub of_net_count : {V : Type 0} (net : List ℕ) (ps : List (List ℕ × V)) → length (values_of net ps) ≡ count_by (bytes_eq net) (map net_of ps)
of_net_count net [] = refl
of_net_count {V} net (p ∷ ps) =
    length-append (cond (bytes_eq p.0 net) (p.1 ∷ []) []) (values_of net ps)
    ∙ ap (λ (n : ℕ). n + length (values_of net ps)) (one (bytes_eq p.0 net) ∙ ap (λ (b : Bool). cond b 1 0) (bytes_eq_comm p.0 net))
    ∙ ap (λ (n : ℕ). cond (bytes_eq net p.0) 1 0 + n) (of_net_count net ps)
    ∙ sym (count-cons net p.0 (map net_of ps))
  where
    one : (b : Bool) → length (cond b (p.1 ∷ []) []) ≡ cond b 1 0
    one true = refl
    one false = refl
