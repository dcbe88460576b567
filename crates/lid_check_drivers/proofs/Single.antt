-- Each column has one driver.
use Rattle.std.proofs.Common.{◌≡◌, ◌⊎◌, ℕ, zero, suc, ◌+◌, ◌≤◌, Bool, true, false, not, cond, List, [], ◌∷◌, ◌++◌, length, map, filter, Option, Some, None, option_and_then, slice_get, inl, inr, refl, sym, ◌∙◌, ap, subst, arith, append_assoc, add-zero, zero-add}
use Rattle.std.specs.Prelude.{slice_index_or}
use Rattle.std.specs.Option.{option_map_or}
use Rattle.std.specs.List.{flat_map, count_by, enumerate_from}
use Rattle.std.specs.Str.{bytes_eq}
use Rattle.std.proofs.lemmas.Bool.{ltb-false, or_left, or_cases}
use Rattle.std.proofs.lemmas.Option.{get_or_from_slice_get}
use Rattle.std.proofs.lemmas.List.{map-append, append-nil}
use Rattle.lid_base.specs.Lists.{Among}
use Rattle.lid_base.proofs.Lists.{among_append, filter_among, map_among, flat_among, get_among, enumerate_among, same_bytes}
use Rattle.lid_cover.specs.declared.Cover.{Cover}
use Rattle.lid_design.specs.declared.Design.{Design}
use Rattle.lid_design.specs.declared.Model.{Model}
use Rattle.lid_design.specs.declared.Cell.{Cell}
use Rattle.lid_design.specs.declared.Cell.TheVariants.{Names, Latch}
use Rattle.lid_design.specs.declared.Inst.{Inst}
use Rattle.lid_design.specs.declared.Bind.{Bind}
use Rattle.lid_design.specs.Network.{Driver, from_connection}
use Rattle.lid_design.specs.Columns.{Column, column, is_among, model_named, model_at, is_clock, data_inputs, first_bit, cell_at, output_at, actuals_of, port_at, drivers_in, drivers}
use Rattle.lid_design.specs.Models.{occurrences, nets, port_drivers, inner_drivers, driver_names, read_by, read_names, actuals_bound_to, number_from, IsReached, formals, formal_of}
use Rattle.lid_check_names.proofs.Lists.{is_among_append, count_append}
use Rattle.lid_check_drivers.specs.Locals.{Local, local_input, local_latch, local_cover, local_connection, NetLocal, inputs_from, local_of, output_driver, outputs_of, inner_locals, locals, values_of, driver_at_path, driver_in, bound_pairs, first_name_of, actual_for}
use Rattle.lid_check_drivers.specs.Judged.{IsJudged}
use Rattle.lid_check_drivers.proofs.Names.{to_among, from_among, count-cons, count_some}
use Rattle.lid_check_drivers.proofs.Passing.{IsSoundInst}
use Rattle.lid_check_drivers.proofs.Clocking.{own_clock, model_at_number}
use Rattle.lid_check_drivers.proofs.Locals.{net_of, of_net_append, of_net_count, locals_named, inputs_named, inputs_seen, inner_seen}
use Rattle.lid_check_drivers.proofs.Wired.{bound_among, data_input, Sub, sub_of, sound, cell_read, inst_read, output_read, read_is_net, net_free, driven_net}
use borrow.Author.Clash.{clash}

single : {A : Type 0} (xs : List A) → length xs ≡ 1 → (x : A) × (xs ≡ x ∷ [])
single [] h = absurd (omega arith)
single (x ∷ []) h = (x, refl)
single (x ∷ y ∷ xs) h = absurd (omega arith)

-- two lists that make one item together
one_of_two : {A : Type 0} (xs ys : List A) (x : A) → xs ++ ys ≡ x ∷ [] → ((xs ≡ x ∷ []) × (ys ≡ [])) ⊎ ((xs ≡ []) × (ys ≡ x ∷ []))
one_of_two [] ys x h = inr (refl, h)
one_of_two {A} (y ∷ []) ys x h = by ys h
  where
    by : (zs : List A) → y ∷ zs ≡ x ∷ [] → ((y ∷ [] ≡ x ∷ []) × (zs ≡ [])) ⊎ ((y ∷ [] ≡ []) × (zs ≡ x ∷ []))
    by [] h = inl (h, refl)
    by (z ∷ zs) h = absurd (let n : length (y ∷ z ∷ zs) ≡ length (x ∷ []) = ap length h in omega arith)
one_of_two (y ∷ z ∷ xs) ys x h = absurd (let n : length (y ∷ z ∷ xs ++ ys) ≡ length (x ∷ []) = ap length h in omega arith)

count_filter : (p : List ℕ → Bool) (x : List ℕ) (xs : List (List ℕ)) → count_by (bytes_eq x) (filter p xs) ≤ count_by (bytes_eq x) xs
count_filter p x [] = omega arith
count_filter p x (y ∷ ys) = by (p y) (count_filter p x ys)
  where
    by : (b : Bool) → count_by (bytes_eq x) (filter p ys) ≤ count_by (bytes_eq x) ys → count_by (bytes_eq x) (cond b (y ∷ filter p ys) (filter p ys)) ≤ count_by (bytes_eq x) (y ∷ ys)
    by true le = let a = count-cons x y ys in let b = count-cons x y (filter p ys) in omega arith
    by false le = let a = count-cons x y ys in omega arith

pub inputs_fewer : (d : Design) (m : Model) (net : List ℕ) → count_by (bytes_eq net) (data_inputs d m) ≤ count_by (bytes_eq net) m.inputs
unfolding data_inputs
inputs_fewer d m net = count_filter (λ net. not (is_clock d m net)) net m.inputs

-- what stands beside a name is one of a list
pub of_net_among : {V : Type 0} (net : List ℕ) (ps : List (List ℕ × V)) (v : V) → Among v (values_of net ps) → Among (net, v) ps
of_net_among {V} net ps v among = by found.0 (bytes_eq found.0.0 net) refl found.1 found.2
  where
    found : (p : List ℕ × V) × Among p ps × Among v (cond (bytes_eq p.0 net) (p.1 ∷ []) [])
    found = flat_among (λ p. cond (bytes_eq p.0 net) (p.1 ∷ []) []) v ps among

    by : (p : List ℕ × V) (b : Bool) → bytes_eq p.0 net ≡ b → Among p ps → Among v (cond b (p.1 ∷ []) []) → Among (net, v) ps
    by p true e is (inl eq) =
        subst (λ (n : List ℕ). Among {A = List ℕ × V} (n, v) ps) (same_bytes p.0 net e)
        (subst (λ (w : V). Among {A = List ℕ × V} (p.0, w) ps) (sym eq) is)
    by p true e is (inr none) = absurd none
    by p false e is none = absurd none

inputs_from_among : (k : ℕ) (names : List (List ℕ)) (net : List ℕ) (l : Local (List ℕ)) → Among (net, l) (inputs_from k names) → (j : ℕ) × (l ≡ local_input (k + j)) × (slice_get names j ≡ Some net)
inputs_from_among k [] net l none = absurd none
inputs_from_among k (name ∷ names) net l (inl eq) =
    (zero, ap (λ (p : NetLocal). p.1) eq ∙ ap local_input (sym (add-zero k)), ap (λ (p : NetLocal). Some p.0) (sym eq))
inputs_from_among k (name ∷ names) net l (inr later) =
    let found = inputs_from_among (k + 1) names net l later in
    let number : (k + 1) + found.0 ≡ k + suc found.0 = omega arith in
    (suc found.0, found.1 ∙ ap local_input number, found.2)

input_among : (d : Design) (m : Model) (net : List ℕ) → Among net (data_inputs d m) → Among net m.inputs
unfolding data_inputs
input_among d m net among = (filter_among (λ net. not (is_clock d m net)) net m.inputs among).0

-- no cell and no instance gives an input of the model
no_input : (d : Design) (m : Model) (net : List ℕ) (j : ℕ) → Among {A = NetLocal} (net, local_input j) (inner_locals d m) → ⊥
no_input d m net j among = by (among_append {A = NetLocal} (net, local_input j) (map local_of m.cells) (flat_map (outputs_of d) (enumerate_from 0 m.insts)) among)
  where
    is_from_input : NetLocal → Bool
    is_from_input (n, local_input j) = true
    is_from_input (n, local_latch first input) = false
    is_from_input (n, local_cover cover inputs) = false
    is_from_input (n, local_connection i formal) = false

    apart : (p : NetLocal) → is_from_input p ≡ false → ◌≡◌ {A = NetLocal} (net, local_input j) p → ⊥
    apart p is_false e = absurd (let f : true ≡ false = ap is_from_input e ∙ is_false in cc)

    of_cell : (cell : Cell) → ◌≡◌ {A = NetLocal} (net, local_input j) (local_of cell) → ⊥
    of_cell (Names inputs out cover) e = apart (local_of (Names inputs out cover)) refl e
    of_cell (Latch input out kind control init) e = apart (local_of (Latch input out kind control init)) refl e

    of_bind : (i : ℕ) (b : Bind) (o : Bool) → Among {A = NetLocal} (net, local_input j) (cond o ((b.actual, local_connection i b.formal) ∷ []) []) → ⊥
    of_bind i b true (inl e) = apart (b.actual, local_connection i b.formal) refl e
    of_bind i b true (inr none) = none
    of_bind i b false none = none

    of_model : (p : ℕ × Inst) (o : Option Model) → Among {A = NetLocal} (net, local_input j) (option_map_or (λ m. flat_map (output_driver m.outputs p.0) p.1.binds) o []) → ⊥
    of_model p None none = none
    of_model p (Some sub) among = let found = flat_among (output_driver sub.outputs p.0) (net, local_input j) p.1.binds among in of_bind p.0 found.0 (is_among found.0.formal sub.outputs) found.2

    by : Among {A = NetLocal} (net, local_input j) (map local_of m.cells) ⊎ Among {A = NetLocal} (net, local_input j) (flat_map (outputs_of d) (enumerate_from 0 m.insts)) → ⊥
    by (inl cells) = let found = map_among local_of (net, local_input j) m.cells cells in of_cell found.0 found.2
    by (inr outs) = let found = flat_among (outputs_of d) (net, local_input j) (enumerate_from 0 m.insts) outs in of_model found.0 (model_named d found.0.1.model) found.2

pairs_named : (binds : List Bind) → map net_of (map (λ (b : Bind). (b.formal, b.actual)) binds) ≡ map formal_of binds
pairs_named [] = refl
pairs_named (b ∷ binds) = ap (λ (ns : List (List ℕ)). b.formal ∷ ns) (pairs_named binds)

actuals_seen : (path net : List ℕ) (binds : List Bind) → flat_map (λ (b : Bind). cond (bytes_eq b.formal net) (from_connection (column path b.actual) ∷ []) []) binds ≡ map (λ actual. from_connection (column path actual)) (values_of net (map (λ (b : Bind). (b.formal, b.actual)) binds))
actuals_seen path net [] = refl
actuals_seen path net (b ∷ binds) =
    ap (λ (ss : List (Driver Column)). cond (bytes_eq b.formal net) (from_connection (column path b.actual) ∷ []) [] ++ ss) (actuals_seen path net binds)
    ∙ by (bytes_eq b.formal net)
  where
    later : List (List ℕ)
    later = values_of net (map (λ (b : Bind). (b.formal, b.actual)) binds)

    by : (c : Bool) → cond c (from_connection (column path b.actual) ∷ []) [] ++ map (λ actual. from_connection (column path actual)) later ≡ map (λ actual. from_connection (column path actual)) (cond c (b.actual ∷ []) [] ++ later)
    by true = refl
    by false = refl

module _ (d : Design) (judged : IsJudged d) where
  -- what a driver of a net reads, inside the net's model
  pub data IsWiredLocal (m : Model) (net : List ℕ) : Local (List ℕ) → Type 0 where
    wired_input : (j : ℕ) → slice_get (data_inputs d m) j ≡ Some net → IsWiredLocal m net (local_input j)
    wired_latch : (first : Bool) (input : List ℕ) → Among input (nets d m) → IsWiredLocal m net (local_latch first input)
    wired_cover : (cover : Cover) (inputs : List (List ℕ)) → ((n : List ℕ) → Among n inputs → Among n (nets d m)) → IsWiredLocal m net (local_cover cover inputs)
    wired_output : (i : ℕ) (formal : List ℕ) (inst : Inst) → slice_get m.insts i ≡ Some inst → (sub : Sub d inst) → Among formal (nets d sub.model) → IsWiredLocal m net (local_connection i formal)

  module _ (k : ℕ) (reached : IsReached d k) (m : Model) (here : slice_get d.models k ≡ Some m) where
    pub exactly_one : (net : List ℕ) → Among net (nets d m) → (l : Local (List ℕ)) × (values_of net (locals d m) ≡ l ∷ [])
    unfolding driver_names
    exactly_one net among = single (values_of net (locals d m)) (by (or_cases (is_among net (port_drivers m)) (is_among net (inner_drivers d m)) (sym (is_among_append net (port_drivers m) (inner_drivers d m)) ∙ driven_net d judged k reached m here net free.0 free.1)))
      where
        free : Among net (occurrences m) × (is_clock d m net ≡ false)
        free = net_free d judged k reached m here net among

        clocks : List (List ℕ)
        clocks = filter (λ net. not (is_among net m.inputs)) m.clocks

        count : List (List ℕ) → ℕ
        count ns = count_by (bytes_eq net) ns

        total : length (values_of net (locals d m)) ≡ count (data_inputs d m) + count (inner_drivers d m)
        total = of_net_count net (locals d m) ∙ ap (count_by (bytes_eq net)) (locals_named d m) ∙ count_append net (data_inputs d m) (inner_drivers d m)

        least : count (data_inputs d m) ≤ count m.inputs
        least = inputs_fewer d m net

        most : (count m.inputs + count clocks) + count (inner_drivers d m) ≤ 1
        most =
            let once = ltb-false 1 (count (port_drivers m ++ inner_drivers d m)) ((sound d judged k reached m here).once net free.0) in
            let a = count_append net (port_drivers m) (inner_drivers d m) in
            let b = count_append net m.inputs clocks in
            omega arith

        at_least : 1 ≤ count (data_inputs d m) ⊎ 1 ≤ count (inner_drivers d m) → length (values_of net (locals d m)) ≡ 1
        at_least (inl some) = let a = total in let b = least in let c = most in omega arith
        at_least (inr some) = let a = total in let b = least in let c = most in omega arith

        from_port : (is_among net m.inputs ≡ true) ⊎ (is_among net clocks ≡ true) → length (values_of net (locals d m)) ≡ 1
        from_port (inl is) = at_least (inl (count_some net (data_inputs d m) (from_among net (data_inputs d m) (data_input d m net free.1 (to_among net m.inputs is)))))
        from_port (inr is) =
            let clock = filter_among (λ net. not (is_among net m.inputs)) net m.clocks (to_among net clocks is) in
            clash (is_clock d m net) (own_clock d m net (or_left (is_among net m.clocks) _ (from_among net m.clocks clock.0))) free.1

        by : (is_among net (port_drivers m) ≡ true) ⊎ (is_among net (inner_drivers d m) ≡ true) → length (values_of net (locals d m)) ≡ 1
        by (inl port) = from_port (or_cases (is_among net m.inputs) (is_among net clocks) (sym (is_among_append net m.inputs clocks) ∙ port))
        by (inr inner) = at_least (inr (count_some net (inner_drivers d m) inner))

    -- what a driver reads are nets
    pub wired_local : (net : List ℕ) (l : Local (List ℕ)) → Among {A = NetLocal} (net, l) (locals d m) → IsWiredLocal m net l
    unfolding locals
    wired_local net l among = by (among_append (net, l) (inputs_from 0 (data_inputs d m)) (inner_locals d m) among)
      where
        read : (n : List ℕ) → Among n (read_names d m) → Among n (nets d m)
        read n is = read_is_net d judged k reached m here n is

        of_cell : (cell : Cell) → Among cell m.cells → ◌≡◌ {A = NetLocal} (net, l) (local_of cell) → IsWiredLocal m net l
        of_cell (Names inputs out cover) is eq =
            subst (IsWiredLocal m net) (ap (λ (p : NetLocal). p.1) (sym eq)) (wired_cover cover inputs (λ n one. read n (cell_read d judged k reached m here n (Names inputs out cover) is one)))
        of_cell (Latch input out kind control init) is eq =
            subst (IsWiredLocal m net) (ap (λ (p : NetLocal). p.1) (sym eq)) (wired_latch (first_bit init) input (read input (cell_read d judged k reached m here input (Latch input out kind control init) is (inl refl))))

        of_bind : (p : ℕ × Inst) → slice_get m.insts p.0 ≡ Some p.1 → (sub : Sub d p.1) (b : Bind) (o : Bool) → is_among b.formal sub.model.outputs ≡ o → Among {A = NetLocal} (net, l) (cond o ((b.actual, local_connection p.0 b.formal) ∷ []) []) → IsWiredLocal m net l
        of_bind p at sub b true is (inl eq) =
            let out = to_among b.formal sub.model.outputs is in
            let formal_net = read_is_net d judged sub.number sub.reached sub.model sub.there b.formal (output_read d judged sub.number sub.reached sub.model sub.there b.formal out) in
            subst (IsWiredLocal m net) (ap (λ (q : NetLocal). q.1) (sym eq)) (wired_output p.0 b.formal p.1 at sub formal_net)
        of_bind p at sub b true is (inr none) = absurd none
        of_bind p at sub b false is none = absurd none

        of_inst : (p : ℕ × Inst) → slice_get m.insts p.0 ≡ Some p.1 → Among {A = NetLocal} (net, l) (outputs_of d p) → IsWiredLocal m net l
        of_inst p at among =
            let sub = sub_of d judged k reached m here p.0 p.1 at in
            let found = flat_among (output_driver sub.model.outputs p.0) (net, l) p.1.binds (subst (λ (o : Option Model). Among {A = NetLocal} (net, l) (option_map_or (λ m. flat_map (output_driver m.outputs p.0) p.1.binds) o [])) sub.named among) in
            of_bind p at sub found.0 (is_among found.0.formal sub.model.outputs) refl found.2

        of_inner : Among {A = NetLocal} (net, l) (map local_of m.cells) ⊎ Among {A = NetLocal} (net, l) (flat_map (outputs_of d) (enumerate_from 0 m.insts)) → IsWiredLocal m net l
        of_inner (inl cells) = let found = map_among local_of (net, l) m.cells cells in of_cell found.0 found.1 found.2
        of_inner (inr outs) =
            let found = flat_among (outputs_of d) (net, l) (enumerate_from 0 m.insts) outs in
            let at = enumerate_among 0 m.insts found.0 found.1 in
            of_inst found.0 (ap (slice_get m.insts) (at.1 ∙ zero-add at.0) ∙ at.2) found.2

        by : Among {A = NetLocal} (net, l) (inputs_from 0 (data_inputs d m)) ⊎ Among {A = NetLocal} (net, l) (inner_locals d m) → IsWiredLocal m net l
        by (inl input) =
            let found = inputs_from_among 0 (data_inputs d m) net l input in
            subst (IsWiredLocal m net) (sym (found.1 ∙ ap local_input (zero-add found.0))) (wired_input found.0 found.2)
        by (inr inner) = of_inner (among_append (net, l) (map local_of m.cells) (flat_map (outputs_of d) (enumerate_from 0 m.insts)) inner)

    -- what drives a column
    pub drivers_at : (path : List ℕ) → number_from d d.root path ≡ Some k → (net : List ℕ) → is_clock d m net ≡ false → drivers d (column path net) ≡ port_at d m path net ++ map (driver_at_path path) (values_of net (inner_locals d m))
    unfolding drivers
    drivers_at path leads net free =
        ap (λ (o : Option Model). option_map_or (drivers_in d path net) o []) (model_at_number d path ∙ ap (option_and_then (slice_get d.models)) leads ∙ here)
        ∙ ap (λ (b : Bool). cond b [] ((port_at d m path net ++ flat_map (cell_at path net) m.cells) ++ flat_map (output_at d path net) (enumerate_from 0 m.insts))) free
        ∙ append_assoc (port_at d m path net) (flat_map (cell_at path net) m.cells) (flat_map (output_at d path net) (enumerate_from 0 m.insts))
        ∙ ap (λ (ss : List (Driver Column)). port_at d m path net ++ ss) (inner_seen d path net m)

    -- at the root
    pub root_driven : number_from d d.root [] ≡ Some k → (net : List ℕ) → Among net (nets d m) → (l : Local (List ℕ)) → values_of net (locals d m) ≡ l ∷ [] → drivers d (column [] net) ≡ driver_at_path [] l ∷ []
    unfolding locals
    root_driven leads net among l one =
        let free = net_free d judged k reached m here net among in
        let inputs = values_of net (inputs_from 0 (data_inputs d m)) in
        let inner = values_of net (inner_locals d m) in
        drivers_at [] leads net free.1
        ∙ ap (λ (ss : List (Driver Column)). ss ++ map (driver_at_path []) inner) (inputs_seen net 0 (data_inputs d m))
        ∙ sym (map-append (driver_at_path []) inputs inner)
        ∙ ap (map (driver_at_path [])) (sym (of_net_append net (inputs_from 0 (data_inputs d m)) (inner_locals d m)) ∙ one)

  -- the net that a data input of an instance is bound to
  module _ (k : ℕ) (reached : IsReached d k) (m : Model) (here : slice_get d.models k ≡ Some m) (i : ℕ) (inst : Inst) (at : slice_get m.insts i ≡ Some inst) (sub : Sub d inst) where
    as_told : IsSoundInst d sub.model inst
    as_told = (sound d judged k reached m here).insts i inst sub.model at sub.named

    bound_once : (formal : List ℕ) → Among formal (data_inputs d sub.model) → values_of formal (bound_pairs inst) ≡ actual_for inst formal ∷ []
    bound_once formal input = by (single (values_of formal (bound_pairs inst)) total)
      where
        count : ℕ
        count = count_by (bytes_eq formal) (formals inst)

        bound : is_among formal (formals inst) ≡ true
        bound = as_told.bound formal input

        total : length (values_of formal (bound_pairs inst)) ≡ 1
        total =
            let whole : length (values_of formal (bound_pairs inst)) ≡ count = of_net_count formal (bound_pairs inst) ∙ ap (count_by (bytes_eq formal)) (pairs_named inst.binds) in
            let least : 1 ≤ count = count_some formal (formals inst) bound in
            let most : count ≤ 1 = ltb-false 1 count (as_told.once formal (to_among formal (formals inst) bound)) in
            omega arith

        by : (a : List ℕ) × (values_of formal (bound_pairs inst) ≡ a ∷ []) → values_of formal (bound_pairs inst) ≡ actual_for inst formal ∷ []
        by (a, e) = e ∙ ap (λ (n : List ℕ). n ∷ []) (sym (ap first_name_of e))

    -- it is a net around the instance
    pub actual_net : (formal : List ℕ) → Among formal (data_inputs d sub.model) → Among (actual_for inst formal) (nets d m)
    actual_net formal input = read_is_net d judged k reached m here (actual_for inst formal) (inst_read d judged k reached m here (actual_for inst formal) inst (get_among m.insts i inst at) read)
      where
        pair_in : Among {A = List ℕ × List ℕ} (formal, actual_for inst formal) (bound_pairs inst)
        pair_in = of_net_among formal (bound_pairs inst) (actual_for inst formal) (subst (λ (ns : List (List ℕ)). Among (actual_for inst formal) ns) (sym (bound_once formal input)) (inl refl))

        found : (b : Bind) × Among b inst.binds × (◌≡◌ {A = List ℕ × List ℕ} (formal, actual_for inst formal) (b.formal, b.actual))
        found = map_among (λ (b : Bind). (b.formal, b.actual)) (formal, actual_for inst formal) inst.binds pair_in

        in_inputs : is_among found.0.formal (data_inputs d sub.model) ≡ true
        in_inputs = from_among found.0.formal (data_inputs d sub.model) (subst (λ (n : List ℕ). Among n (data_inputs d sub.model)) (ap (λ (p : List ℕ × List ℕ). p.0) found.2) input)

        drawn : Among (actual_for inst formal) (actuals_bound_to (data_inputs d sub.model) inst.binds)
        drawn = subst (λ (n : List ℕ). Among n (actuals_bound_to (data_inputs d sub.model) inst.binds)) (sym (ap (λ (p : List ℕ × List ℕ). p.1) found.2)) (bound_among (data_inputs d sub.model) inst.binds found.0 found.1 in_inputs)

        read : Among (actual_for inst formal) (read_by d inst)
        read = subst (λ (o : Option Model). Among (actual_for inst formal) (option_map_or (λ m. actuals_bound_to (data_inputs d m) inst.binds) o [])) (sym sub.named) drawn

    -- in an instance
    pub inst_driven : (path : List ℕ) → number_from d d.root path ≡ Some k → number_from d d.root (i ∷ path) ≡ Some sub.number → (net : List ℕ) → Among net (nets d sub.model) → (l : Local (List ℕ)) → values_of net (locals d sub.model) ≡ l ∷ [] → drivers d (column (i ∷ path) net) ≡ driver_in path i inst (data_inputs d sub.model) l ∷ []
    unfolding locals
    inst_driven path leads inner_leads net among l one = by (one_of_two inputs inner l (sym (of_net_append net (inputs_from 0 (data_inputs d sub.model)) (inner_locals d sub.model)) ∙ one))
      where
        inputs : List (Local (List ℕ))
        inputs = values_of net (inputs_from 0 (data_inputs d sub.model))

        inner : List (Local (List ℕ))
        inner = values_of net (inner_locals d sub.model)

        free : is_clock d sub.model net ≡ false
        free = (net_free d judged sub.number sub.reached sub.model sub.there net among).1

        start : drivers d (column (i ∷ path) net) ≡ port_at d sub.model (i ∷ path) net ++ map (driver_at_path (i ∷ path)) inner
        start = drivers_at sub.number sub.reached sub.model sub.there (i ∷ path) inner_leads net free

        around : option_and_then (λ (m : Model). slice_get m.insts i) (model_at d path) ≡ Some inst
        around = ap (option_and_then (λ (m : Model). slice_get m.insts i)) (model_at_number d path ∙ ap (option_and_then (slice_get d.models)) leads ∙ here) ∙ at

        port_of : (b : Bool) → is_among net sub.model.inputs ≡ b → port_at d sub.model (i ∷ path) net ≡ cond b (actuals_of path net inst) []
        port_of b e = ap (λ (c : Bool). cond c (option_map_or (actuals_of path net) (option_and_then (λ (m : Model). slice_get m.insts i) (model_at d path)) []) []) e ∙ ap (λ (o : Option Inst). cond b (option_map_or (actuals_of path net) o []) []) around

        in_first : (inputs ≡ l ∷ []) × (inner ≡ []) → drivers d (column (i ∷ path) net) ≡ driver_in path i inst (data_inputs d sub.model) l ∷ []
        in_first (mine, none) =
            let found = inputs_from_among 0 (data_inputs d sub.model) net l (of_net_among net (inputs_from 0 (data_inputs d sub.model)) l (subst (λ (ls : List (Local (List ℕ))). Among l ls) (sym mine) (inl refl))) in
            let input : Among net (data_inputs d sub.model) = get_among (data_inputs d sub.model) found.0 net found.2 in
            let is_input : l ≡ local_input found.0 = found.1 ∙ ap local_input (zero-add found.0) in
            let name : slice_index_or (data_inputs d sub.model) found.0 [] ≡ net = get_or_from_slice_get (data_inputs d sub.model) found.0 net [] found.2 in
            start
            ∙ ap (λ (ls : List (Local (List ℕ))). port_at d sub.model (i ∷ path) net ++ map (driver_at_path (i ∷ path)) ls) none
            ∙ append-nil (port_at d sub.model (i ∷ path) net)
            ∙ port_of true (from_among net sub.model.inputs (input_among d sub.model net input))
            ∙ actuals_seen path net inst.binds
            ∙ ap (map (λ actual. from_connection (column path actual))) (bound_once net input)
            ∙ ap (λ (n : List ℕ). from_connection (column path (actual_for inst n)) ∷ []) (sym name)
            ∙ ap (λ (x : Local (List ℕ)). driver_in path i inst (data_inputs d sub.model) x ∷ []) (sym is_input)

        not_input : (b : Bool) → is_among net sub.model.inputs ≡ b → inputs ≡ [] → is_among net sub.model.inputs ≡ false
        not_input false e none = e
        not_input true e none =
            let input = data_input d sub.model net free (to_among net sub.model.inputs e) in
            let some = count_some net (data_inputs d sub.model) (from_among net (data_inputs d sub.model) input) in
            let counted : length inputs ≡ count_by (bytes_eq net) (data_inputs d sub.model) = of_net_count net (inputs_from 0 (data_inputs d sub.model)) ∙ ap (count_by (bytes_eq net)) (inputs_named 0 (data_inputs d sub.model)) in
            let empty : length inputs ≡ 0 = ap length none in
            absurd (omega arith)

        as_driver : (x : Local (List ℕ)) → Among {A = NetLocal} (net, x) (inner_locals d sub.model) → driver_at_path (i ∷ path) x ≡ driver_in path i inst (data_inputs d sub.model) x
        as_driver (local_input j) is = absurd (no_input d sub.model net j is)
        as_driver (local_latch first input) is = refl
        as_driver (local_cover cover nets) is = refl
        as_driver (local_connection j formal) is = refl

        in_later : (inputs ≡ []) × (inner ≡ l ∷ []) → drivers d (column (i ∷ path) net) ≡ driver_in path i inst (data_inputs d sub.model) l ∷ []
        in_later (none, mine) =
            start
            ∙ ap (λ (ss : List (Driver Column)). ss ++ map (driver_at_path (i ∷ path)) inner) (port_of false (not_input (is_among net sub.model.inputs) refl none))
            ∙ ap (map (driver_at_path (i ∷ path))) mine
            ∙ ap (λ (s : Driver Column). s ∷ []) (as_driver l (of_net_among net (inner_locals d sub.model) l (subst (λ (ls : List (Local (List ℕ))). Among l ls) (sym mine) (inl refl))))

        by : ((inputs ≡ l ∷ []) × (inner ≡ [])) ⊎ ((inputs ≡ []) × (inner ≡ l ∷ [])) → drivers d (column (i ∷ path) net) ≡ driver_in path i inst (data_inputs d sub.model) l ∷ []
        by (inl first) = in_first first
        by (inr later) = in_later later
