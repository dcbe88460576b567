-- Each net of a reached model has one driver, and what a driver reads are nets.
use Rattle.std.proofs.Common.{◌≡◌, ◌⊎◌, ℕ, zero, suc, Bool, true, false, not, ◌||◌, ◌&&◌, List, [], ◌∷◌, ◌++◌, map, filter, Option, Some, None, option_and_then, IsSome, slice_get, inl, inr, refl, sym, ◌∙◌, ap, subst}
use Rattle.std.specs.Option.{option_map_or}
use Rattle.std.specs.List.{flat_map}
use Rattle.std.specs.Str.{bytes_eq}
use Rattle.std.proofs.lemmas.Option.{slice_get_within, slice_get-get_or}
use Rattle.lid_base.specs.Lists.{Among}
use Rattle.lid_base.proofs.Lists.{among_left, among_right, among_append, among_filter, filter_among, among_map, map_among, among_flat, flat_among, get_among, same_bytes, bytes_same, any_true}
use Rattle.lid_design.specs.declared.Design.{Design}
use Rattle.lid_design.specs.declared.Model.{Model}
use Rattle.lid_design.specs.declared.Cell.{Cell}
use Rattle.lid_design.specs.declared.Cell.TheVariants.{Names, Latch}
use Rattle.lid_design.specs.declared.Inst.{Inst}
use Rattle.lid_design.specs.declared.Bind.{Bind}
use Rattle.lid_design.specs.Columns.{is_among, model_named, is_clocked_by, is_own_clock, is_clock, data_inputs}
use Rattle.lid_design.specs.Models.{occurrences, firsts, nets, is_port, port_drivers, inner_drivers, driver_names, driven_by, read_by, read_names, cell_out, cell_reads, cell_names, control_names, actual_of, actual_names, actuals_bound_to, number_named, insts_of, instance_number, number_from, IsReached, formals}
use Rattle.lid_check_drivers.specs.Judged.{IsJudged}
use Rattle.lid_check_drivers.proofs.Names.{to_among, from_among}
use Rattle.lid_check_drivers.proofs.Passing.{IsSound, sound_model}
use Rattle.lid_check_drivers.proofs.Clocking.{own_clock, named_model, bound_clock, number_within}
use Rattle.std.proofs.lemmas.Bool.{or_left, or_right, or_cases}
use borrow.Author.Clash.{clash}

-- a test that is never met with a fact that is
and_not : (a b : Bool) → (a && not b) ≡ false → a ≡ true → b ≡ true
and_not true true h is = refl
and_not true false h is = absurd (let e : true ≡ false = h in cc)
and_not false b h is = absurd (let e : false ≡ true = is in cc)

misused_not : (c p r i : Bool) → (c && (p || (r || i))) ≡ false → r ≡ true → c ≡ false
misused_not false p r i h is = refl
misused_not true true r i h is = absurd (let e : true ≡ false = h in cc)
misused_not true false true i h is = absurd (let e : true ≡ false = h in cc)
misused_not true false false i h is = absurd (let e : false ≡ true = is in cc)

pub firsts_among : (x : List ℕ) (xs : List (List ℕ)) → Among x xs → Among x (firsts xs)
firsts_among x [] among = absurd among
firsts_among x (y ∷ ys) (inl same) = inl same
firsts_among x (y ∷ ys) (inr later) = by (bytes_eq x y) refl (firsts_among x ys later)
  where
    by : (b : Bool) → bytes_eq x y ≡ b → Among x (firsts ys) → Among x (firsts (y ∷ ys))
    by true e next = inl (same_bytes x y e)
    by false e next = inr (among_filter (λ other. not (bytes_eq other y)) x (firsts ys) next (ap not e))

among-firsts : (x : List ℕ) (xs : List (List ℕ)) → Among x (firsts xs) → Among x xs
among-firsts x [] among = absurd among
among-firsts x (y ∷ ys) (inl same) = inl same
among-firsts x (y ∷ ys) (inr later) = inr (among-firsts x ys (filter_among (λ other. not (bytes_eq other y)) x (firsts ys) later).0)

-- the places of a model where a net is named
pub data Spot (m : Model) (net : List ℕ) : Type 0 where
  spot_input : Among net m.inputs → Spot m net
  spot_output : Among net m.outputs → Spot m net
  spot_clock : Among net m.clocks → Spot m net
  spot_cell : (cell : Cell) → Among cell m.cells → Among net (cell_names cell) → Spot m net
  spot_bind : (inst : Inst) (b : Bind) → Among inst m.insts → Among b inst.binds → net ≡ b.actual → Spot m net

-- the first places of a model
abbrev ports : Model → List (List ℕ)
ports m = m.inputs ++ m.outputs

abbrev all_ports : Model → List (List ℕ)
all_ports m = ports m ++ m.clocks

abbrev past_cells : Model → List (List ℕ)
past_cells m = all_ports m ++ flat_map cell_names m.cells

spot_of : (m : Model) (net : List ℕ) → Among net (occurrences m) → Spot m net
unfolding occurrences
spot_of m net among = by1 (among_append net (past_cells m) (flat_map actual_names m.insts) among)
  where
    of_inst : (inst : Inst) × Among inst m.insts × Among net (actual_names inst) → Spot m net
    of_inst found = let b = map_among actual_of net found.0.binds found.2 in spot_bind found.0 b.0 found.1 b.1 b.2

    of_cell : (cell : Cell) × Among cell m.cells × Among net (cell_names cell) → Spot m net
    of_cell found = spot_cell found.0 found.1 found.2

    by4 : Among net m.inputs ⊎ Among net m.outputs → Spot m net
    by4 (inl here) = spot_input here
    by4 (inr there) = spot_output there

    by3 : Among net (ports m) ⊎ Among net m.clocks → Spot m net
    by3 (inl here) = by4 (among_append net m.inputs m.outputs here)
    by3 (inr there) = spot_clock there

    by2 : Among net (all_ports m) ⊎ Among net (flat_map cell_names m.cells) → Spot m net
    by2 (inl here) = by3 (among_append net (ports m) m.clocks here)
    by2 (inr there) = of_cell (flat_among cell_names net m.cells there)

    by1 : Among net (past_cells m) ⊎ Among net (flat_map actual_names m.insts) → Spot m net
    by1 (inl here) = by2 (among_append net (all_ports m) (flat_map cell_names m.cells) here)
    by1 (inr there) = of_inst (flat_among actual_names net m.insts there)

pub occurs : (m : Model) (net : List ℕ) → Spot m net → Among net (occurrences m)
unfolding occurrences
occurs m net spot = by spot
  where
    from_cells : Among net (past_cells m) → Among net (past_cells m ++ flat_map actual_names m.insts)
    from_cells here = among_left net (past_cells m) (flat_map actual_names m.insts) here

    from_ports : Among net (all_ports m) → Among net (past_cells m ++ flat_map actual_names m.insts)
    from_ports here = from_cells (among_left net (all_ports m) (flat_map cell_names m.cells) here)

    by : Spot m net → Among net (past_cells m ++ flat_map actual_names m.insts)
    by (spot_input here) = from_ports (among_left net (ports m) m.clocks (among_left net m.inputs m.outputs here))
    by (spot_output here) = from_ports (among_left net (ports m) m.clocks (among_right net m.inputs m.outputs here))
    by (spot_clock here) = from_ports (among_right net (ports m) m.clocks here)
    by (spot_cell cell among named) = from_cells (among_right net (all_ports m) (flat_map cell_names m.cells) (among_flat cell_names cell net m.cells among named))
    by (spot_bind inst b among bound same) =
        let here : Among net (actual_names inst) = subst (λ (n : List ℕ). Among n (actual_names inst)) (sym same) (among_map actual_of b inst.binds bound) in
        among_right net (past_cells m) (flat_map actual_names m.insts) (among_flat actual_names inst net m.insts among here)

pub bound_among : (formals : List (List ℕ)) (binds : List Bind) (b : Bind) → Among b binds → is_among b.formal formals ≡ true → Among b.actual (actuals_bound_to formals binds)
bound_among formals binds b bound formal = among_map actual_of b (filter (λ b. is_among b.formal formals) binds) (among_filter (λ b. is_among b.formal formals) b binds bound formal)

pub among_bound : (formals : List (List ℕ)) (binds : List Bind) (net : List ℕ) → Among net (actuals_bound_to formals binds) → (b : Bind) × Among b binds × (is_among b.formal formals ≡ true) × (net ≡ b.actual)
among_bound formals binds net among =
    let found = map_among actual_of net (filter (λ b. is_among b.formal formals) binds) among in
    let kept = filter_among (λ b. is_among b.formal formals) found.0 binds found.1 in
    (found.0, kept.0, kept.1, found.2)

pub data_input : (d : Design) (m : Model) (net : List ℕ) → is_clock d m net ≡ false → Among net m.inputs → Among net (data_inputs d m)
unfolding data_inputs
data_input d m net free among = among_filter (λ net. not (is_clock d m net)) net m.inputs among (ap not free)

-- the model of an instance
pub record Sub (d : Design) (inst : Inst) : Type 0 where
  pub number : ℕ
  pub names : number_named d inst.model ≡ Some number
  pub model : Model
  pub there : slice_get d.models number ≡ Some model
  pub named : model_named d inst.model ≡ Some model
  pub reached : IsReached d number

pub some_of_is : {A : Type 0} (o : Option A) → IsSome o → (a : A) × (o ≡ Some a)
some_of_is None is = absurd (let e : false ≡ true = is in cc)
some_of_is (Some a) is = (a, refl)

module _ (d : Design) (judged : IsJudged d) where
  pub sub_of : (k : ℕ) → IsReached d k → (m : Model) → slice_get d.models k ≡ Some m → (i : ℕ) (inst : Inst) → slice_get m.insts i ≡ Some inst → Sub d inst
  unfolding number_from
  sub_of k reached m here i inst at =
      let insts : insts_of d k ≡ m.insts = ap (λ (o : Option Model). option_map_or (λ m. m.insts) o []) here in
      let at_k : slice_get (insts_of d k) i ≡ Some inst = ap (λ (is : List Inst). slice_get is i) insts ∙ at in
      let found = some_of_is (instance_number d i k) (judged.known k i reached (slice_get_within (insts_of d k) i inst at_k)) in
      let names : number_named d inst.model ≡ Some found.0 = ap (option_and_then (λ inst. number_named d inst.model)) (sym at_k) ∙ found.1 in
      let below = number_within d inst found.0 names m (get_among d.models k m here) in
      let there = slice_get-get_or d.models found.0 m below in
      record {
        number = found.0;
        names = names;
        model = _;
        there = there;
        named = named_model d inst found.0 names ∙ there;
        reached = (i ∷ reached.0, ap (option_and_then (instance_number d i)) reached.1 ∙ found.1);
      }

  module _ (k : ℕ) (reached : IsReached d k) (m : Model) (here : slice_get d.models k ≡ Some m) where
    pub sound : IsSound d m
    sound = sound_model d judged.pass k m reached here

    pub inst_at : (inst : Inst) → Among inst m.insts → (i : ℕ) × (slice_get m.insts i ≡ Some inst)
    inst_at inst among = by m.insts among
      where
        by : (insts : List Inst) → Among inst insts → (i : ℕ) × (slice_get insts i ≡ Some inst)
        by [] none = absurd none
        by (x ∷ insts) (inl same) = (zero, ap Some (sym same))
        by (x ∷ insts) (inr later) = let found = by insts later in (suc found.0, found.1)

    -- what is read occurs
    read_spot : (net : List ℕ) → Among net (read_names d m) → Spot m net
    unfolding read_names
    read_spot net among = by (among_append net (flat_map cell_reads m.cells ++ flat_map (read_by d) m.insts) m.outputs among)
      where
        of_cell : (cell : Cell) → Among cell m.cells → Among net (cell_reads cell) → Spot m net
        of_cell (Names inputs out cover) is read = spot_cell (Names inputs out cover) is (among_left net inputs (out ∷ []) read)
        of_cell (Latch input out kind control init) is (inl same) = spot_cell (Latch input out kind control init) is (inl same)
        of_cell (Latch input out kind control init) is (inr none) = absurd none

        of_sub : (inst : Inst) → Among inst m.insts → (o : Option Model) → Among net (option_map_or (λ m. actuals_bound_to (data_inputs d m) inst.binds) o []) → Spot m net
        of_sub inst is None none = absurd none
        of_sub inst is (Some sub) read = let found = among_bound (data_inputs d sub) inst.binds net read in spot_bind inst found.0 is found.1 found.3

        by2 : Among net (flat_map cell_reads m.cells) ⊎ Among net (flat_map (read_by d) m.insts) → Spot m net
        by2 (inl cells) = let found = flat_among cell_reads net m.cells cells in of_cell found.0 found.1 found.2
        by2 (inr insts) = let found = flat_among (read_by d) net m.insts insts in of_sub found.0 found.1 (model_named d found.0.model) found.2

        by : Among net (flat_map cell_reads m.cells ++ flat_map (read_by d) m.insts) ⊎ Among net m.outputs → Spot m net
        by (inl rest) = by2 (among_append net (flat_map cell_reads m.cells) (flat_map (read_by d) m.insts) rest)
        by (inr outs) = spot_output outs

    pub cell_read : (net : List ℕ) (cell : Cell) → Among cell m.cells → Among net (cell_reads cell) → Among net (read_names d m)
    unfolding read_names
    cell_read net cell is read = among_left net (flat_map cell_reads m.cells ++ flat_map (read_by d) m.insts) m.outputs (among_left net (flat_map cell_reads m.cells) (flat_map (read_by d) m.insts) (among_flat cell_reads cell net m.cells is read))

    pub inst_read : (net : List ℕ) (inst : Inst) → Among inst m.insts → Among net (read_by d inst) → Among net (read_names d m)
    unfolding read_names
    inst_read net inst is read = among_left net (flat_map cell_reads m.cells ++ flat_map (read_by d) m.insts) m.outputs (among_right net (flat_map cell_reads m.cells) (flat_map (read_by d) m.insts) (among_flat (read_by d) inst net m.insts is read))

    pub output_read : (net : List ℕ) → Among net m.outputs → Among net (read_names d m)
    unfolding read_names
    output_read net is = among_right net (flat_map cell_reads m.cells ++ flat_map (read_by d) m.insts) m.outputs is

    -- what is read is a net
    pub read_is_net : (net : List ℕ) → Among net (read_names d m) → Among net (nets d m)
    unfolding nets
    read_is_net net read =
        let spot = occurs m net (read_spot net read) in
        let free = misused_not (is_clock d m net) _ (is_among net (read_names d m)) (is_among net (inner_drivers d m)) (sound.clocks net spot) (from_among net (read_names d m) read) in
        among_filter (λ net. not (is_clock d m net)) net (firsts (occurrences m)) (firsts_among net (occurrences m) spot) (ap not free)

    pub net_free : (net : List ℕ) → Among net (nets d m) → Among net (occurrences m) × (is_clock d m net ≡ false)
    unfolding nets
    net_free net among =
        let kept = filter_among (λ net. not (is_clock d m net)) net (firsts (occurrences m)) among in
        (among-firsts net (occurrences m) kept.0, unnot (is_clock d m net) kept.1)
      where
        unnot : (b : Bool) → not b ≡ true → b ≡ false
        unnot false h = refl
        unnot true h = absurd (let e : false ≡ true = h in cc)

    pub net_from : (net : List ℕ) → Spot m net → is_clock d m net ≡ false → Among net (nets d m)
    unfolding nets
    net_from net spot free = among_filter (λ net. not (is_clock d m net)) net (firsts (occurrences m)) (firsts_among net (occurrences m) (occurs m net spot)) (ap not free)

    -- a net is driven
    pub driven_net : (net : List ℕ) → Among net (occurrences m) → is_clock d m net ≡ false → is_among net (driver_names d m) ≡ true
    unfolding driver_names
    driven_net net among free = by (spot_of m net among)
      where
        clocked : {P : Type 0} → is_own_clock m net ≡ true → P
        clocked own = clash (is_clock d m net) (own_clock d m net own) free

        from_read : Among net (read_names d m) → is_among net (driver_names d m) ≡ true
        from_read read = and_not (is_among net (read_names d m)) (is_among net (driver_names d m)) (sound.driven net among) (from_among net (read_names d m) read)

        inner : Among net (inner_drivers d m) → is_among net (driver_names d m) ≡ true
        inner is = from_among net (driver_names d m) (among_right net (port_drivers m) (inner_drivers d m) is)

        from_cell : (cell : Cell) → Among cell m.cells → Among net (cell_names cell) → is_among net (driver_names d m) ≡ true
        from_cell (Names inputs out cover) is named = by_part (among_append net inputs (out ∷ []) named)
          where
            by_part : Among net inputs ⊎ Among net (out ∷ []) → is_among net (driver_names d m) ≡ true
            by_part (inl read) = from_read (cell_read net (Names inputs out cover) is read)
            by_part (inr (inl same)) = inner (among_left net (map cell_out m.cells) (flat_map (driven_by d) m.insts) (subst (λ (n : List ℕ). Among n (map cell_out m.cells)) (sym same) (among_map cell_out (Names inputs out cover) m.cells is)))
            by_part (inr (inr none)) = absurd none
        from_cell (Latch input out kind control init) is (inl same) = from_read (cell_read net (Latch input out kind control init) is (inl same))
        from_cell (Latch input out kind control init) is (inr rest) = by_part (among_append net (control_names control) (out ∷ []) rest)
          where
            by_control : (c : Option (List ℕ)) → control ≡ c → Among net (control_names c) → is_among net (driver_names d m) ≡ true
            by_control None e none = absurd none
            by_control (Some name) e (inl same) =
                clocked (or_right (is_among net m.clocks) _ (any_true (is_clocked_by net) m.cells (Latch input out kind control init) is (ap (λ (c : Option (List ℕ)). option_map_or (bytes_eq net) c false) e ∙ bytes_same net name same)))
            by_control (Some name) e (inr none) = absurd none

            by_part : Among net (control_names control) ⊎ Among net (out ∷ []) → is_among net (driver_names d m) ≡ true
            by_part (inl named) = by_control control refl named
            by_part (inr (inl same)) = inner (among_left net (map cell_out m.cells) (flat_map (driven_by d) m.insts) (subst (λ (n : List ℕ). Among n (map cell_out m.cells)) (sym same) (among_map cell_out (Latch input out kind control init) m.cells is)))
            by_part (inr (inr none)) = absurd none

        from_bind : (inst : Inst) (b : Bind) → Among inst m.insts → Among b inst.binds → net ≡ b.actual → is_among net (driver_names d m) ≡ true
        from_bind inst b is bound same = by_port (or_cases (is_among b.formal sub.model.inputs) _ port)
          where
            place : (i : ℕ) × (slice_get m.insts i ≡ Some inst)
            place = inst_at inst is

            sub : Sub d inst
            sub = sub_of k reached m here place.0 inst place.1

            port : is_port sub.model b.formal ≡ true
            port = (sound.insts place.0 inst sub.model place.1 sub.named).ports b bound

            formal_clock : is_clock d sub.model b.formal ≡ true → is_among net (driver_names d m) ≡ true
            formal_clock clock = clash (is_clock d m net) (ap (is_clock d m) same ∙ bound_clock d judged k reached m here place.0 inst place.1 sub.number sub.model sub.names sub.there b bound clock) free

            as_input : (c : Bool) → is_clock d sub.model b.formal ≡ c → is_among b.formal sub.model.inputs ≡ true → is_among net (driver_names d m) ≡ true
            as_input true clock in_inputs = formal_clock clock
            as_input false clock in_inputs =
                let as_data : Among b.formal (data_inputs d sub.model) = data_input d sub.model b.formal clock (to_among b.formal sub.model.inputs in_inputs) in
                let read : Among b.actual (read_by d inst) = subst (λ (o : Option Model). Among b.actual (option_map_or (λ m. actuals_bound_to (data_inputs d m) inst.binds) o [])) (sym sub.named) (bound_among (data_inputs d sub.model) inst.binds b bound (from_among b.formal (data_inputs d sub.model) as_data)) in
                from_read (inst_read net inst is (subst (λ (n : List ℕ). Among n (read_by d inst)) (sym same) read))

            as_output : is_among b.formal sub.model.outputs ≡ true → is_among net (driver_names d m) ≡ true
            as_output out =
                let drives : Among b.actual (driven_by d inst) = subst (λ (o : Option Model). Among b.actual (option_map_or (λ m. actuals_bound_to m.outputs inst.binds) o [])) (sym sub.named) (bound_among sub.model.outputs inst.binds b bound out) in
                inner (among_right net (map cell_out m.cells) (flat_map (driven_by d) m.insts) (among_flat (driven_by d) inst net m.insts is (subst (λ (n : List ℕ). Among n (driven_by d inst)) (sym same) drives)))

            by_rest : (is_among b.formal sub.model.outputs ≡ true) ⊎ (is_among b.formal sub.model.clocks ≡ true) → is_among net (driver_names d m) ≡ true
            by_rest (inl out) = as_output out
            by_rest (inr clock) = formal_clock (own_clock d sub.model b.formal (or_left (is_among b.formal sub.model.clocks) _ clock))

            by_port : (is_among b.formal sub.model.inputs ≡ true) ⊎ ((is_among b.formal sub.model.outputs || is_among b.formal sub.model.clocks) ≡ true) → is_among net (driver_names d m) ≡ true
            by_port (inl in_inputs) = as_input (is_clock d sub.model b.formal) refl in_inputs
            by_port (inr rest) = by_rest (or_cases (is_among b.formal sub.model.outputs) (is_among b.formal sub.model.clocks) rest)

        by : Spot m net → is_among net (driver_names d m) ≡ true
        by (spot_input is) = from_among net (driver_names d m) (among_left net (port_drivers m) (inner_drivers d m) (among_left net m.inputs (filter (λ net. not (is_among net m.inputs)) m.clocks) is))
        by (spot_output is) = from_read (output_read net is)
        by (spot_clock is) = clocked (or_left (is_among net m.clocks) _ (from_among net m.clocks is))
        by (spot_cell cell is named) = from_cell cell is named
        by (spot_bind inst b is bound same) = from_bind inst b is bound same
