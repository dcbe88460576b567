-- What drives the columns of a root that has instances.
use Rattle.std.proofs.Common.{◌≡◌, ◌<◌, ◌≤◌, ◌⊎◌, ◌+◌, ℕ, zero, suc, Bool, true, false, not, cond, ◌&&◌, ◌||◌, eqb, List, [], ◌∷◌, ◌++◌, length, map, find, get_or, Option, Some, None, option_map, option_and_then, slice_get, inl, inr, refl, sym, ◌∙◌, ap, subst, arith, zero-add}
use Rattle.std.specs.Option.{option_map_or}
use Rattle.std.specs.List.{AllByRecursion, flat_map, enumerate_from}
use Rattle.std.specs.Str.{bytes_eq}
use Rattle.std.proofs.lemmas.Option.{slice_get_within}
use Rattle.lid_base.specs.Lists.{Among}
use Rattle.lid_base.proofs.Lists.{all_among, among_append, flat_among, among_get, get_among, enumerate_among, same_bytes, if_among}
use Rattle.lid_cover.specs.declared.Cover.{Cover}
use Rattle.lid_cover.specs.Cover.{cover_value}
use Rattle.lid_design.specs.declared.Design.{Design}
use Rattle.lid_design.specs.declared.Model.{Model}
use Rattle.lid_design.specs.declared.Cell.{Cell}
use Rattle.lid_design.specs.declared.Cell.TheVariants.{Names, Latch}
use Rattle.lid_design.specs.declared.Inst.{Inst}
use Rattle.lid_design.specs.declared.Bind.{Bind}
use Rattle.lid_design.specs.Network.{Driver, from_input, from_latch, from_cover, from_connection}
use Rattle.lid_design.specs.Columns.{Column, column, is_among, model_named, instance_model, model_at, is_clock, data_inputs, first_bit, places_of, cell_at, output_at, port_at, drivers_in, drivers}
use Rattle.lid_design.specs.Models.{insts_of, is_buffer, is_constant, cell_out}
use Rattle.lid_design.specs.Loops.{pearls}
use Rattle.lid_design.specs.WellFormed.{IsWellFormed, IsWellFormedCell}
use Rattle.lid_check_rules.specs.Buffers.{passes_on}
use Rattle.lid_check_rules.proofs.Buffers.{buffer_passes}
use Rattle.lid_check_rules.specs.declared.fault.CheckFault.{CheckFault}
use Rattle.lid_check_rules.specs.declared.fault.CheckFault.TheVariants.{RootLogic}
use Rattle.lid_check_rules.specs.Conditions.{root_logic, logic_in}
use Rattle.lid_check_drivers.proofs.Names.{to_among, none_found}
use Rattle.lid_check_drivers.proofs.Passing.{map_none}
use Rattle.lid_check_parts.proofs.Finding.{inst_pearl}
use Rattle.lid_net_law.specs.Ports.{outputs_at, ports_of, IsPort}

-- what may drive a column of the root
pub data RootShape (d : Design) (s : Driver Column) : Type 0 where
  given : (j : ℕ) → s ≡ from_input j → RootShape d s
  constant : (cover : Cover) → s ≡ from_cover cover [] → RootShape d s
  buffer : (cover : Cover) (a : List ℕ) → s ≡ from_cover cover (column [] a ∷ []) → passes_on cover ≡ true → RootShape d s
  output : (i place : ℕ) (formal : List ℕ) → s ≡ from_connection (column (i ∷ []) formal) → IsPort d (column (i ∷ []) formal) (suc i) place → RootShape d s

module _ (d : Design) (m : Model) (root : model_at d [] ≡ Some m) (here : slice_get d.models d.root ≡ Some m) (some : 0 < length m.insts) (formed : AllByRecursion IsWellFormedCell m.cells) (plain : (cell : Cell) → Among cell m.cells → (is_buffer cell || is_constant cell) ≡ true) (net : List ℕ) (s : Driver Column) where
  by_place : (k : ℕ) (names : List (List ℕ)) → Among s (places_of net k names) → RootShape d s
  by_place k [] none = absurd none
  by_place k (name ∷ names) among = elim (among_append s (cond (bytes_eq name net) (from_input k ∷ []) []) (places_of net (k + 1) names) among) [
    | inl h ↦ given k (if_among (bytes_eq name net) s (from_input k) h).1
    | inr later ↦ by_place (k + 1) names later
  ]

  by_cover : (inputs : List (List ℕ)) (out : List ℕ) (cover : Cover) → cover.inputs ≡ length inputs → (is_buffer (Names inputs out cover) || is_constant (Names inputs out cover)) ≡ true → s ≡ from_cover cover (map (column []) inputs) → RootShape d s
  by_cover [] out cover long ok is = constant cover is
  by_cover (a ∷ []) out cover long ok is = buffer cover a is (buffer_passes (a ∷ []) out cover long ∙ no_constant (is_buffer (Names (a ∷ []) out cover)) ok)
    where
      no_constant : (b : Bool) → (b || false) ≡ true → b ≡ true
      no_constant true e = refl
      no_constant false e = absurd (let f : false ≡ true = e in cc)
  by_cover (a ∷ b ∷ more) out cover long ok is = absurd (never ok)
    where
      wide : eqb (suc (suc (length more))) 1 ≡ false
      wide = grind arith

      no : eqb (suc (suc (length more))) 0 ≡ false
      no = grind arith

      never : (is_buffer (Names (a ∷ b ∷ more) out cover) || is_constant (Names (a ∷ b ∷ more) out cover)) ≡ true → ⊥
      never h =
          let e = ap (λ (v : Bool). (v && (not (cover_value cover (false ∷ [])) && cover_value cover (true ∷ []))) || eqb (suc (suc (length more))) 0) (sym wide) in
          let f : false ≡ true = sym no ∙ e ∙ h in
          cc

  by_cell : (cell : Cell) → Among cell m.cells → Among s (cell_at [] net cell) → RootShape d s
  by_cell (Names inputs out cover) at among =
      by_cover inputs out cover (all_among IsWellFormedCell m.cells (Names inputs out cover) formed at).1 (plain (Names inputs out cover) at) (if_among (bytes_eq out net) s (from_cover cover (map (column []) inputs)) among).1
  by_cell (Latch input out kind control init) at among = absurd (let f : false ≡ true = plain (Latch input out kind control init) at in cc)

  output_port : (i : ℕ) (inst : Inst) (sub : Model) (formal : List ℕ) → slice_get m.insts i ≡ Some inst → model_named d inst.model ≡ Some sub → Among formal sub.outputs → (place : ℕ) × IsPort d (column (i ∷ []) formal) (suc i) place
  unfolding ports_of model_at
  output_port i inst sub formal at named among =
      let place = among_get sub.outputs formal among in
      let body : model_at d (i ∷ []) ≡ Some sub = ap (option_and_then (instance_model d i)) root ∙ ap (option_and_then (λ inst. model_named d inst.model)) at ∙ named in
      let less = slice_get_within m.insts i inst at in
      let insts : length (insts_of d d.root) ≡ length m.insts = ap (λ (o : Option Model). length (option_map_or (λ m. m.insts) o [])) here in
      let pearl = inst_pearl d i (omega arith) in (
        place.0,
        ap (λ (o : Option (List ℕ)). slice_get (option_map_or (outputs_at d) o []) place.0) pearl
            ∙ ap (λ (o : Option Model). slice_get (option_map_or (λ m. map (column (i ∷ [])) m.outputs) o []) place.0) body
            ∙ got (column (i ∷ [])) sub.outputs place.0 formal place.1,
      )
    where
      got : (f : List ℕ → Column) (xs : List (List ℕ)) (j : ℕ) (x : List ℕ) → slice_get xs j ≡ Some x → slice_get (map f xs) j ≡ Some (f x)
      got f [] j x h = absurd (let e : None ≡ Some x = h in cc)
      got f (y ∷ xs) zero x h = ap Some (let e : Some y ≡ Some x = h in let g : y ≡ x = cc in ap f g)
      got f (y ∷ xs) (suc j) x h = got f xs j x h

  by_bind : (i : ℕ) (inst : Inst) → slice_get m.insts i ≡ Some inst → (o : Option Model) → model_named d inst.model ≡ o → Among s (option_map_or (λ sub. flat_map (λ b. cond (bytes_eq b.actual net && is_among b.formal sub.outputs) (from_connection (column (i ∷ []) b.formal) ∷ []) []) inst.binds) o []) → RootShape d s
  by_bind i inst at None named none = absurd none
  by_bind i inst at (Some sub) named among =
      let found = flat_among (λ (b : Bind). cond (bytes_eq b.actual net && is_among b.formal sub.outputs) (from_connection (column (i ∷ []) b.formal) ∷ []) []) s inst.binds among in
      let h = if_among (bytes_eq found.0.actual net && is_among found.0.formal sub.outputs) s (from_connection (column (i ∷ []) found.0.formal)) found.2 in
      let formal = to_among found.0.formal sub.outputs (second (bytes_eq found.0.actual net) (is_among found.0.formal sub.outputs) h.0) in
      let port = output_port i inst sub found.0.formal at named formal in
      output i port.0 found.0.formal h.1 port.1
    where
      second : (a b : Bool) → a && b ≡ true → b ≡ true
      second true b e = e
      second false b e = absurd (let f : false ≡ true = e in cc)

  by_inst : (p : ℕ × Inst) → Among p (enumerate_from 0 m.insts) → Among s (output_at d [] net p) → RootShape d s
  by_inst p at among =
      let e = enumerate_among 0 m.insts p at in
      let n : e.0 ≡ p.0 = (let f = e.1 in omega arith) in
      by_bind p.0 p.1 (subst (λ (i : ℕ). slice_get m.insts i ≡ Some p.1) n e.2) (model_named d p.1.model) refl among

  pub root_shape : Among s (drivers d (column [] net)) → RootShape d s
  unfolding drivers
  root_shape among = clock (is_clock d m net) (subst (λ (o : Option Model). Among s (option_map_or (drivers_in d [] net) o [])) root among)
    where
      inner : Among s (places_of net 0 (data_inputs d m)) ⊎ Among s (flat_map (cell_at [] net) m.cells) → RootShape d s
      inner (inl h) = by_place 0 (data_inputs d m) h
      inner (inr h) = let found = flat_among (cell_at [] net) s m.cells h in by_cell found.0 found.1 found.2

      outer : Among s (places_of net 0 (data_inputs d m) ++ flat_map (cell_at [] net) m.cells) ⊎ Among s (flat_map (output_at d [] net) (enumerate_from 0 m.insts)) → RootShape d s
      outer (inl h) = inner (among_append s (places_of net 0 (data_inputs d m)) (flat_map (cell_at [] net) m.cells) h)
      outer (inr h) = let found = flat_among (output_at d [] net) s (enumerate_from 0 m.insts) h in by_inst found.0 found.1 found.2

      clock : (b : Bool) → Among s (cond b [] (places_of net 0 (data_inputs d m) ++ flat_map (cell_at [] net) m.cells ++ flat_map (output_at d [] net) (enumerate_from 0 m.insts))) → RootShape d s
      clock true h = absurd h
      clock false h = outer (among_append s (places_of net 0 (data_inputs d m) ++ flat_map (cell_at [] net) m.cells) (flat_map (output_at d [] net) (enumerate_from 0 m.insts)) h)

-- the cells of a root with instances are buffers and constants
pub root_plain : (d : Design) (m : Model) → slice_get d.models d.root ≡ Some m → 0 < length m.insts → root_logic d ≡ None → (cell : Cell) → Among cell m.cells → (is_buffer cell || is_constant cell) ≡ true
unfolding root_logic
root_plain d m here some none cell among =
    let at_root : logic_in m ≡ None = ap (option_and_then logic_in) (sym here) ∙ none in
    let other : eqb (length m.insts) 0 ≡ false = grind (arith, some) in
    let found : option_map (λ cell. RootLogic (cell_out cell)) (find (λ cell. not (is_buffer cell || is_constant cell)) m.cells) ≡ None =
    ap (λ (b : Bool). cond b None (option_map (λ cell. RootLogic (cell_out cell)) (find (λ cell. not (is_buffer cell || is_constant cell)) m.cells))) (sym other) ∙ at_root in
    yes_of (is_buffer cell || is_constant cell) (none_found (λ cell. not (is_buffer cell || is_constant cell)) m.cells (map_none (λ cell. RootLogic (cell_out cell)) (find (λ cell. not (is_buffer cell || is_constant cell)) m.cells) found) cell among)
  where
    yes_of : (b : Bool) → not b ≡ false → b ≡ true
    yes_of true e = refl
    yes_of false e = absurd (let f : true ≡ false = e in cc)
