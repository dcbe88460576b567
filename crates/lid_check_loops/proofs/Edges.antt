-- What an edge of the elaborated graph passes: a cover, or a binding of an instance.
use Rattle.std.proofs.Common.{◌≡◌, ◌⊎◌, ℕ, ◌+◌, Bool, true, false, ◌&&◌, cond, List, [], ◌∷◌, ◌++◌, map, Option, Some, None, option_and_then, slice_get, inl, inr, refl, sym, ◌∙◌, ap, subst, arith}
use Rattle.std.specs.Option.{option_map_or}
use Rattle.std.specs.List.{flat_map, enumerate_from}
use Rattle.std.specs.Str.{bytes_eq}
use Rattle.lid_base.specs.Lists.{Among}
use Rattle.lid_base.proofs.Lists.{among_append, map_among, flat_among, enumerate_among, same_bytes}
use Rattle.lid_cover.specs.declared.Cover.{Cover}
use Rattle.lid_design.specs.declared.Design.{Design}
use Rattle.lid_design.specs.declared.Model.{Model}
use Rattle.lid_design.specs.declared.Cell.{Cell}
use Rattle.lid_design.specs.declared.Cell.TheVariants.{Names, Latch}
use Rattle.lid_design.specs.declared.Inst.{Inst}
use Rattle.lid_design.specs.Network.{Driver, from_input, from_latch, from_cover, from_connection}
use Rattle.lid_design.specs.Columns.{Column, column, is_among, model_named, model_at, is_clock, data_inputs, first_bit, places_of, cell_at, output_at, actuals_of, port_at, drivers_in, drivers}
use Rattle.lid_design.specs.Feeds.{read_now, Feeds}
use Rattle.lid_check_drivers.proofs.Names.{to_among}
use Rattle.std.proofs.lemmas.Bool.{and_parts}

-- a cover of the model drives c and reads a
pub record OfCover (m : Model) (a c : Column) : Type 0 where
  pub inputs : List (List ℕ)
  pub out : List ℕ
  pub cover : Cover
  pub cell : Among (Names inputs out cover) m.cells
  pub out_is : out ≡ c.net
  pub from : Among a.net inputs
  pub path_is : a.path ≡ c.path

-- c is an input of the model of an instance, which a stands around
pub record OfInput (m : Model) (a c : Column) : Type 0 where
  pub i : ℕ
  pub path_is : c.path ≡ i ∷ a.path
  pub input : Among c.net m.inputs

-- a is an output of an instance in the model
pub record OfOutput (d : Design) (m : Model) (a c : Column) : Type 0 where
  pub i : ℕ
  pub inst : Inst
  pub at : slice_get m.insts i ≡ Some inst
  pub sub : Model
  pub named : model_named d inst.model ≡ Some sub
  pub path_is : a.path ≡ i ∷ c.path
  pub output : Among a.net sub.outputs

pub record EdgeAt (d : Design) (a c : Column) : Type 0 where
  pub model : Model
  pub here : model_at d c.path ≡ Some model
  pub edge : OfCover model a c ⊎ OfInput model a c ⊎ OfOutput d model a c

module _ (d : Design) where
  nothing_given : (net : List ℕ) (k : ℕ) (names : List (List ℕ)) (s : Driver Column) (a : Column) → Among s (places_of net k names) → Among a (read_now s) → ⊥
  nothing_given net k [] s a among read = among
  nothing_given net k (name ∷ names) s a among read = by (bytes_eq name net) among (λ later. nothing_given net (k + 1) names s a later read)
    where
      by : (b : Bool) → Among s (cond b (from_input k ∷ []) [] ++ places_of net (k + 1) names) → (Among s (places_of net (k + 1) names) → ⊥) → ⊥
      by true (inl e) next = subst (λ (t : Driver Column). Among a (read_now t)) e read
      by true (inr later) next = next later
      by false later next = next later

  one_same : (b : Bool) (s : Driver Column) (a from : Column) → Among s (cond b (from_connection from ∷ []) []) → Among a (read_now s) → (b ≡ true) × (a ≡ from)
  one_same true s a from (inl e) read = by (subst (λ (t : Driver Column). Among a (read_now t)) e read)
    where
      by : (a ≡ from) ⊎ ⊥ → (true ≡ true) × (a ≡ from)
      by (inl is) = (refl, is)
      by (inr none) = absurd none
  one_same true s a from (inr none) read = absurd none
  one_same false s a from none read = absurd none

  of_cell : (m : Model) (c : Column) (cell : Cell) (s : Driver Column) (a : Column) → Among cell m.cells → Among s (cell_at c.path c.net cell) → Among a (read_now s) → OfCover m a c
  of_cell m c (Names inputs out cover) s a there among read = by (bytes_eq out c.net) refl among
    where
      by : (b : Bool) → bytes_eq out c.net ≡ b → Among s (cond b (from_cover cover (map (column c.path) inputs) ∷ []) []) → OfCover m a c
      by true is (inl e) =
          let found = map_among (column c.path) a inputs (subst (λ (t : Driver Column). Among a (read_now t)) e read) in
          record {
            inputs = inputs;
            out = out;
            cover = cover;
            cell = there;
            out_is = same_bytes out c.net is;
            from = subst (λ (x : List ℕ). Among x inputs) (sym (ap (λ (c : Column). c.net) found.2)) found.1;
            path_is = ap (λ (c : Column). c.path) found.2;
          }
      by true is (inr none) = absurd none
      by false is none = absurd none
  of_cell m c (Latch input out kind control init) s a there among read = by (bytes_eq out c.net) among
    where
      by : (b : Bool) → Among s (cond b (from_latch (first_bit init) (column c.path input) ∷ []) []) → OfCover m a c
      by true (inl e) = absurd (subst (λ (t : Driver Column). Among a (read_now t)) e read)
      by true (inr none) = absurd none
      by false none = absurd none

  of_port : (m : Model) (path : List ℕ) (c : Column) → path ≡ c.path → (s : Driver Column) (a : Column) → Among s (port_at d m path c.net) → Among a (read_now s) → OfInput m a c
  of_port m [] c same s a among read = absurd (nothing_given c.net 0 (data_inputs d m) s a among read)
  of_port m (i ∷ up) c same s a among read = by (is_among c.net m.inputs) refl among
    where
      from : Among c.net m.inputs → (inst : Inst) → Among s (actuals_of up c.net inst) → OfInput m a c
      from input inst here =
          let found = flat_among (λ b. cond (bytes_eq b.formal c.net) (from_connection (column up b.actual) ∷ []) []) s inst.binds here in
          let is = one_same (bytes_eq found.0.formal c.net) s a (column up found.0.actual) found.2 read in
          record { i = i; path_is = sym same ∙ ap (λ (c : Column). i ∷ c.path) (sym is.1); input = input }

      some : Among c.net m.inputs → (o : Option Inst) → Among s (option_map_or (actuals_of up c.net) o []) → OfInput m a c
      some input None none = absurd none
      some input (Some inst) here = from input inst here

      by : (b : Bool) → is_among c.net m.inputs ≡ b → Among s (cond b (option_map_or (actuals_of up c.net) (option_and_then (λ around. slice_get around.insts i) (model_at d up)) []) []) → OfInput m a c
      by true is here = some (to_among c.net m.inputs is) (option_and_then (λ around. slice_get around.insts i) (model_at d up)) here
      by false is none = absurd none

  of_output : (m : Model) (c : Column) (p : ℕ × Inst) (s : Driver Column) (a : Column) → slice_get m.insts p.0 ≡ Some p.1 → Among s (output_at d c.path c.net p) → Among a (read_now s) → OfOutput d m a c
  of_output m c p s a at among read = by (model_named d p.1.model) refl among
    where
      by : (o : Option Model) → model_named d p.1.model ≡ o → Among s (option_map_or (λ m. flat_map (λ b. cond (bytes_eq b.actual c.net && is_among b.formal m.outputs) (from_connection (column (p.0 ∷ c.path) b.formal) ∷ []) []) p.1.binds) o []) → OfOutput d m a c
      by None named none = absurd none
      by (Some sub) named here =
          let found = flat_among (λ b. cond (bytes_eq b.actual c.net && is_among b.formal sub.outputs) (from_connection (column (p.0 ∷ c.path) b.formal) ∷ []) []) s p.1.binds here in
          let is = one_same (bytes_eq found.0.actual c.net && is_among found.0.formal sub.outputs) s a (column (p.0 ∷ c.path) found.0.formal) found.2 read in
          let output = to_among found.0.formal sub.outputs ((and_parts (bytes_eq found.0.actual c.net) (is_among found.0.formal sub.outputs) is.0).1) in
          record {
            i = p.0;
            inst = p.1;
            at = at;
            sub = sub;
            named = named;
            path_is = ap (λ (c : Column). c.path) is.1;
            output = subst (λ (x : List ℕ). Among x sub.outputs) (sym (ap (λ (c : Column). c.net) is.1)) output;
          }

  pub edge_at : (a c : Column) → Feeds (drivers d) a c → EdgeAt d a c
  unfolding drivers
  edge_at a c (s, among, read) = some (model_at d c.path) refl among
    where
      inner : (m : Model) → Among s (port_at d m c.path c.net) ⊎ Among s (flat_map (cell_at c.path c.net) m.cells) → OfCover m a c ⊎ OfInput m a c ⊎ OfOutput d m a c
      inner m (inl port) = inr (inl (of_port m c.path c refl s a port read))
      inner m (inr cells) = let found = flat_among (cell_at c.path c.net) s m.cells cells in inl (of_cell m c found.0 s a found.1 found.2 read)

      outer : (m : Model) → Among s (port_at d m c.path c.net ++ flat_map (cell_at c.path c.net) m.cells) ⊎ Among s (flat_map (output_at d c.path c.net) (enumerate_from 0 m.insts)) → OfCover m a c ⊎ OfInput m a c ⊎ OfOutput d m a c
      outer m (inl ports) = inner m (among_append s (port_at d m c.path c.net) (flat_map (cell_at c.path c.net) m.cells) ports)
      outer m (inr outputs) =
          let found = flat_among (output_at d c.path c.net) s (enumerate_from 0 m.insts) outputs in
          let at = enumerate_among 0 m.insts found.0 found.1 in
          let number : found.0.0 ≡ at.0 = (let e = at.1 in omega arith) in
          inr (inr (of_output m c found.0 s a (ap (slice_get m.insts) number ∙ at.2) found.2 read))

      clock : (m : Model) (b : Bool) → Among s (cond b [] (port_at d m c.path c.net ++ flat_map (cell_at c.path c.net) m.cells ++ flat_map (output_at d c.path c.net) (enumerate_from 0 m.insts))) → OfCover m a c ⊎ OfInput m a c ⊎ OfOutput d m a c
      clock m true none = absurd none
      clock m false here = outer m (among_append s (port_at d m c.path c.net ++ flat_map (cell_at c.path c.net) m.cells) (flat_map (output_at d c.path c.net) (enumerate_from 0 m.insts)) here)

      some : (o : Option Model) → model_at d c.path ≡ o → Among s (option_map_or (drivers_in d c.path c.net) o []) → EdgeAt d a c
      some None here none = absurd none
      some (Some m) here there = record { model = m; here = here; edge = clock m (is_clock d m c.net) there }
