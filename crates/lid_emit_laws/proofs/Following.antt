-- The flat part of a pearl, whose nets stand for columns, follows a table of the system.
use Rattle.std.proofs.Common.{◌≡◌, ℕ, zero, suc, ◌+◌, ◌<◌, ◌==◌, ◌⊎◌, inl, inr, Bool, true, false, cond, List, [], ◌∷◌, ◌++◌, length, get_or, map, Some, None, slice_get, refl, sym, ◌∙◌, ap, subst, arith}
use Rattle.std.specs.Prelude.{Option, flat_map, option_map}
use Rattle.std.specs.Option.{option_map_or}
use Rattle.std.proofs.lemmas.Bool.{eqb-true}
use Rattle.std.proofs.lemmas.List.{length-map, get_or-map}
use Rattle.std.proofs.lemmas.Option.{slice_get-map, slice_get_within, get_or_from_slice_get}
use Rattle.std.proofs.lemmas.Simd.{map-map}
use Rattle.lid_base.specs.Lists.{Among}
use Rattle.lid_base.proofs.Lists.{all_among, among_append, flat_among}
use Rattle.lid_cover.specs.declared.Cover.{Cover}
use Rattle.lid_cover.specs.Cover.{cover_value}
use Rattle.lid_design.specs.declared.FlatLatch.{FlatLatch}
use Rattle.lid_design.specs.declared.FlatCover.{FlatCover}
use Rattle.lid_design.specs.declared.Design.{Design}
use Rattle.lid_design.specs.declared.Model.{Model}
use Rattle.lid_design.specs.declared.Flat.{Flat}
use Rattle.lid_design.specs.Network.{Driver, from_input, from_latch, from_cover, from_connection, Table, bit_of, latch_bit, IsStrict}
use Rattle.lid_base.specs.Each.{from_each}
use Rattle.lid_design.specs.Columns.{Column, column, drivers, model_at, data_inputs}
use Rattle.lid_design.specs.Flat.{inputs_at, latch_at, cover_at, flat_drivers}
use Rattle.lid_design.specs.Walks.{HasTable}
use Rattle.lid_design.specs.Loops.{pearls}
use Rattle.lid_check_parts.specs.Standing.{StandsFor, IsInput}
use Rattle.lid_check.specs.Flats.{IsFlatOf}
use Rattle.lid_pearl.specs.Pearls.{View}
use Rattle.lid_system.specs.declared.System.{System}
use Rattle.lid_system.specs.declared.Node.{Node}
use Rattle.lid_system.specs.declared.Node.TheVariants.{Source, Shell, Sink}
use Rattle.lid_system.specs.declared.InBit.{InBit}
use Rattle.lid_system.specs.Systems as system
use Rattle.lid_system.specs.Systems.{Point, ports_at}
use Rattle.lid_system.specs.Tables.{IsTable, in_bit, input_bits, input_reads}
use Rattle.lid_system.proofs.Points.{ports_driven}
use Rattle.lid_system.proofs.Streaming.{inputs_agree}
use Rattle.lid_net_law.specs.Agreement.{column_of, seen, IsSystemOf, IsPearlShell}
use Rattle.lid_net_law.proofs.Agreeing.{table_is, bits_same, shell_ports}
use Rattle.lid_net_law.proofs.Leading.{passed_value, led_bits}
use Rattle.lid_emit_system.specs.Nets.{NetWires, HasBits, FollowTables}
use Rattle.lid_emit_laws.specs.Flats.{AreFlatsOf}
use Rattle.lid_base.proofs.Alls.{all_from_among}
use Rattle.lid_base.proofs.Each.{each_length, each_at}

-- an input of a flat part stands at its place
input_place : (k first j : ℕ) (nets : List ℕ) → Among {A = Driver ℕ} (from_input j) (inputs_at k first nets) → (i : ℕ) × (j ≡ first + i) × (slice_get nets i ≡ Some k)
input_place k first j [] none = absurd none
input_place k first j (net ∷ nets) there = by (net == k) refl (among_append {A = Driver ℕ} (from_input j) (cond (net == k) (from_input first ∷ []) []) (inputs_at k (first + 1) nets) there) (input_place k (first + 1) j nets)
  where
    by : (b : Bool) → (net == k) ≡ b → Among {A = Driver ℕ} (from_input j) (cond b (from_input first ∷ []) []) ⊎ Among {A = Driver ℕ} (from_input j) (inputs_at k (first + 1) nets)
        → (Among {A = Driver ℕ} (from_input j) (inputs_at k (first + 1) nets) → (i : ℕ) × (j ≡ (first + 1) + i) × (slice_get nets i ≡ Some k)) → (i : ℕ) × (j ≡ first + i) × (slice_get (net ∷ nets) i ≡ Some k)
    by true is (inl (inl same)) next = let e : j ≡ first = cc in (0, omega arith, ap (λ (n : ℕ). Some n) (eqb-true net k is))
    by true is (inl (inr none)) next = absurd none
    by false is (inl none) next = absurd none
    by b is (inr later) next = let found = next later in (suc found.0, (let e : j ≡ (first + 1) + found.0 = found.1 in omega arith), found.2)

-- no latch and no cover is an input
not_cell : (f : Flat) (k j : ℕ) → Among {A = Driver ℕ} (from_input j) (flat_map (latch_at k) f.latches ++ flat_map (cover_at k) f.covers) → ⊥
not_cell f k j there = by (among_append {A = Driver ℕ} (from_input j) (flat_map (latch_at k) f.latches) (flat_map (cover_at k) f.covers) there)
  where
    no_latch : (b first : Bool) (input : ℕ) → Among {A = Driver ℕ} (from_input j) (cond b (from_latch first input ∷ []) []) → ⊥
    no_latch true first input (inl is) = cc
    no_latch true first input (inr none) = none
    no_latch false first input none = none

    no_cover : (b : Bool) (cover : Cover) (ks : List ℕ) → Among {A = Driver ℕ} (from_input j) (cond b (from_cover cover ks ∷ []) []) → ⊥
    no_cover true cover ks (inl is) = cc
    no_cover true cover ks (inr none) = none
    no_cover false cover ks none = none

    by : Among {A = Driver ℕ} (from_input j) (flat_map (latch_at k) f.latches) ⊎ Among {A = Driver ℕ} (from_input j) (flat_map (cover_at k) f.covers) → ⊥
    by (inl here) = let found = flat_among {A = FlatLatch} {B = Driver ℕ} (latch_at k) (from_input j) f.latches here in no_latch (found.0.out == k) found.0.init found.0.input found.2
    by (inr here) = let found = flat_among {A = FlatCover} {B = Driver ℕ} (cover_at k) (from_input j) f.covers here in no_cover (found.0.out == k) found.0.cover found.0.ins found.2

input_at : (f : Flat) (k j : ℕ) → Among {A = Driver ℕ} (from_input j) (flat_drivers f k) → slice_get f.ins j ≡ Some k
unfolding flat_drivers
input_at f k j there = by (among_append {A = Driver ℕ} (from_input j) (inputs_at k 0 f.ins) (flat_map (latch_at k) f.latches ++ flat_map (cover_at k) f.covers) there)
  where
    by : Among {A = Driver ℕ} (from_input j) (inputs_at k 0 f.ins) ⊎ Among {A = Driver ℕ} (from_input j) (flat_map (latch_at k) f.latches ++ flat_map (cover_at k) f.covers) → slice_get f.ins j ≡ Some k
    by (inl here) = let at = input_place k 0 j f.ins here in let same : j ≡ at.0 = (let e : j ≡ 0 + at.0 = at.1 in omega arith) in ap (slice_get f.ins) same ∙ at.2
    by (inr there) = absurd (not_cell f k j there)

module _ (d : Design) (s : System) (n : NetWires) (of : IsSystemOf d s) (well : system.IsWellFormed s) (rows : List (List Bool)) (b : Table Column) (strict : IsStrict (drivers d) rows b) (a : Table Point) (table : IsTable s rows a) where
  module _ (v : ℕ) (pearl : View) (ins : List InBit) (here : slice_get s.nodes v ≡ Some (Shell pearl ins)) (number : ℕ) (place : v ≡ number + 1) (part : IsFlatOf d number (n.flat v)) where
    abbrev f : Flat
    f = n.flat v

    abbrev bits : Table ℕ
    bits t k = b t (part.col k)

    abbrev inputs : List (List Bool)
    inputs = from_each (λ t. map (bits t) f.ins) 0 (length rows)

    given_row : (t : ℕ) → t < length rows → get_or inputs t [] ≡ map (bits t) f.ins
    given_row t below = let same : 0 + t ≡ t = omega arith in each_at (λ t. map (bits t) f.ins) 0 (length rows) t [] below ∙ ap (λ (u : ℕ). map (bits u) f.ins) same

    column_bit : (t : ℕ) (c : Column) (r : Driver Column) → t < length rows → Among r (drivers d c) → b t c ≡ bit_of rows b t r
    column_bit t c r below there = all_among (λ r. b t c ≡ bit_of rows b t r) (drivers d c) r (strict t c below) there

    input_bit : (t k j : ℕ) → t < length rows → slice_get f.ins j ≡ Some k → bits t k ≡ get_or (get_or inputs t []) j false
    input_bit t k j below at =
        sym (ap (bits t) (get_or_from_slice_get f.ins j k 0 at))
        ∙ sym (get_or-map (bits t) f.ins j 0 false (slice_get_within f.ins j k at))
        ∙ ap (λ (xs : List Bool). get_or xs j false) (sym (given_row t below))

    latch_same : (t : ℕ) (first : Bool) (k : ℕ) → latch_bit b first (part.col k) t ≡ latch_bit bits first k t
    latch_same zero first k = refl
    latch_same (suc t) first k = refl

    each_driver : (t k : ℕ) (e : Driver ℕ) → t < length rows → Among e (flat_drivers f k) → bits t k ≡ bit_of inputs bits t e
    each_driver t k (from_input j) below there = input_bit t k j below (input_at f k j there)
    each_driver t k (from_latch first input) below there = by (part.each k (from_latch first input) there)
      where
        by : IsInput {C = ℕ} (from_latch first input) ⊎ ((r : Driver Column) × Among r (drivers d (part.col k)) × StandsFor part.col (from_latch first input) r) → bits t k ≡ latch_bit bits first input t
        by (inl none) = absurd none
        by (inr found) = column_bit t (part.col k) (from_latch first (part.col input)) below (subst (λ (r : Driver Column). Among r (drivers d (part.col k))) found.2 found.1) ∙ latch_same t first input
    each_driver t k (from_cover cover ks) below there = by (part.each k (from_cover cover ks) there)
      where
        by_kind : (r : Driver Column) → Among r (drivers d (part.col k)) → StandsFor part.col (from_cover cover ks) r → bits t k ≡ cover_value cover (map (bits t) ks)
        by_kind r among (inl is) = column_bit t (part.col k) (from_cover cover (map part.col ks)) below (subst (λ (r : Driver Column). Among r (drivers d (part.col k))) is among) ∙ ap (cover_value cover) (map-map (b t) part.col ks)
        by_kind r among (inr is) =
            column_bit t (part.col k) (from_connection (part.col is.0)) below (subst (λ (r : Driver Column). Among r (drivers d (part.col k))) is.3 among)
            ∙ sym (passed_value cover is.2 (bits t is.0))
            ∙ ap (λ (xs : List ℕ). cover_value cover (map (bits t) xs)) (sym is.1)

        by : IsInput {C = ℕ} (from_cover cover ks) ⊎ ((r : Driver Column) × Among r (drivers d (part.col k)) × StandsFor part.col (from_cover cover ks) r) → bits t k ≡ cover_value cover (map (bits t) ks)
        by (inl none) = absurd none
        by (inr found) = by_kind found.0 found.1 found.2
    each_driver t k (from_connection c) below there = by (part.each k (from_connection c) there)
      where
        by : IsInput {C = ℕ} (from_connection c) ⊎ ((r : Driver Column) × Among r (drivers d (part.col k)) × StandsFor part.col (from_connection c) r) → bits t k ≡ bits t c
        by (inl none) = absurd none
        by (inr found) = absurd found.2

    part_table : IsStrict (flat_drivers f) inputs bits
    part_table t k below = all_from_among (λ e. bits t k ≡ bit_of inputs bits t e) (flat_drivers f k) (λ e there. each_driver t k e (subst (λ (m : ℕ). t < m) (each_length (λ t. map (bits t) f.ins) 0 (length rows)) below) there)

    -- the shell is of the same pearl
    abbrev shell : IsPearlShell d s of.columns v pearl ins
    shell = of.shells v pearl ins here

    same_some : {A : Type 0} (o : Option A) (x y : A) → o ≡ Some x → o ≡ Some y → x ≡ y
    same_some o x y is also = let e : Some x ≡ Some y = sym is ∙ also in cc

    same_path : part.of.path ≡ shell.path
    same_path =
        let numbers : number ≡ shell.number = (let e = shell.place in omega (arith, place)) in
        same_some (slice_get (pearls d) number) part.of.path shell.path part.of.here (ap (slice_get (pearls d)) numbers ∙ shell.here)

    same_model : part.of.model ≡ shell.model
    same_model = same_some (model_at d part.of.path) part.of.model shell.model part.of.body (ap (model_at d) same_path ∙ shell.body)

    same_ins : map part.col f.ins ≡ map (of.columns v) pearl.flat.ins
    same_ins = part.ins ∙ ap (λ (path : List ℕ). map (column path) (data_inputs d part.of.model)) same_path ∙ ap (λ (m : Model). map (column shell.path) (data_inputs d m)) same_model ∙ sym shell.inputs

    same_outs : map part.col f.outs ≡ map (column_of d of.columns) (ports_at s v)
    same_outs = part.outs ∙ ap (λ (path : List ℕ). map (column path) part.of.model.outputs) same_path ∙ ap (λ (m : Model). map (column shell.path) m.outputs) same_model ∙ sym (shell_ports d s v pearl ins of here)

    -- what is read, in one row
    ins_bits : (t : ℕ) → t < length rows → map (in_bit s a t) ins ≡ map (bits t) f.ins
    ins_bits t below =
        let width : length ins ≡ length (map (of.columns v) pearl.flat.ins) = (system_width ∙ sym (length-map pearl.flat.ins (of.columns v))) in
        let node : (u : Table Point) → input_bits s u v t ≡ map (in_bit s u t) ins = (λ u. ap (λ o. map (in_bit s u t) (option_map_or input_reads o [])) here) in
        sym (node a)
        ∙ inputs_agree s well rows a (seen d of.columns b) table (table_is d s of well rows b strict) v t below
        ∙ node (seen d of.columns b)
        ∙ led_bits d s of.columns rows b strict t below (map (of.columns v) pearl.flat.ins) ins width shell.led
        ∙ ap (map (b t)) (sym same_ins)
        ∙ map-map (b t) part.col f.ins
      where
        system_width : length ins ≡ length pearl.flat.ins
        system_width = (well.each_node v (Shell pearl ins) here).width

    reads : (t j k : ℕ) (x : InBit) → t < length rows → slice_get f.ins j ≡ Some k → slice_get ins j ≡ Some x → bits t k ≡ in_bit s a t x
    reads t j k x below at also =
        let left : slice_get (map (bits t) f.ins) j ≡ Some (bits t k) = slice_get-map (bits t) f.ins j ∙ ap (option_map (bits t)) at in
        let right : slice_get (map (in_bit s a t) ins) j ≡ Some (in_bit s a t x) = slice_get-map (in_bit s a t) ins j ∙ ap (option_map (in_bit s a t)) also in
        same_some (slice_get (map (bits t) f.ins) j) (bits t k) (in_bit s a t x) left (ap (λ (xs : List Bool). slice_get xs j) (sym (ins_bits t below)) ∙ right)

    ports_same : (t : ℕ) → t < length rows → (ps : List Point) → ((x : Point) → Among x ps → Among x (ports_at s v)) → map (b t) (map (column_of d of.columns) ps) ≡ map (a t) ps
    ports_same t below [] within = refl
    ports_same t below (x ∷ ps) within =
        let head : b t (column_of d of.columns x) ≡ a t x = sym (bits_same d s of well rows b strict a t x table below (ports_driven s well v x (within x (inl refl)))) in
        let tail : map (b t) (map (column_of d of.columns) ps) ≡ map (a t) ps = ports_same t below ps (λ y i. within y (inr i)) in
        cc

    pub has_bits : HasBits s rows a v f ins bits
    has_bits = record {
      inputs = inputs;
      long = each_length (λ t. map (bits t) f.ins) 0 (length rows);
      table = part_table;
      reads = reads;
      gives = λ t below. sym (map-map (b t) part.col f.outs) ∙ ap (map (b t)) same_outs ∙ ports_same t below (ports_at s v) (λ x i. i);
    }

  module _ (flats : AreFlatsOf d s n) where
    abbrev Each : ℕ → Type 0
    Each v = (m : Table ℕ) × ((pearl : View) (ins : List InBit) → slice_get s.nodes v ≡ Some (Shell pearl ins) → HasBits s rows a v (n.flat v) ins m)

    each : (v : ℕ) (o : Option Node) → slice_get s.nodes v ≡ o → Each v
    each v None here = (λ t k. false, λ pearl ins also. absurd (let e : None ≡ Some (Shell pearl ins) = sym here ∙ also in cc))
    each v (Some (Source columns)) here = (λ t k. false, λ pearl ins also. absurd (let e : Some (Source columns) ≡ Some (Shell pearl ins) = sym here ∙ also in cc))
    each v (Some (Sink columns reads)) here = (λ t k. false, λ pearl ins also. absurd (let e : Some (Sink columns reads) ≡ Some (Shell pearl ins) = sym here ∙ also in cc))
    each v (Some (Shell pearl ins)) here =
        let flat = flats v pearl ins here in
        (λ t k. b t (flat.2.col k), λ other reads also. subst (λ (xs : List InBit). HasBits s rows a v (n.flat v) xs (λ t k. b t (flat.2.col k))) (let e : Some (Shell pearl ins) ≡ Some (Shell other reads) = sym here ∙ also in cc) (has_bits v pearl ins here flat.0 flat.1 flat.2))

    pub all_bits : (bits : ℕ → Table ℕ) × ((v : ℕ) (pearl : View) (ins : List InBit) → slice_get s.nodes v ≡ Some (Shell pearl ins) → HasBits s rows a v (n.flat v) ins (bits v))
    all_bits = (λ v. (each v (slice_get s.nodes v) refl).0, λ v. (each v (slice_get s.nodes v) refl).1)

pub flats_follow : (d : Design) (s : System) (n : NetWires) → HasTable (drivers d) → IsSystemOf d s → system.IsWellFormed s → AreFlatsOf d s n → FollowTables s n
flats_follow d s n has of well flats rows a table = all_bits d s n of well rows (has rows).0 (has rows).1 a table flats
