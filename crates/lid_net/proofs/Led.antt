-- Each input of a node is led back to a port or a constant.
use Rattle.std.proofs.Common.{◌≡◌, ◌<◌, ◌≤◌, ◌⊎◌, ◌+◌, ℕ, zero, suc, Bool, true, false, not, cond, eqb, List, [], ◌∷◌, ◌++◌, length, map, get_or, Option, Some, None, option_and_then, slice_get, inl, inr, refl, sym, ◌∙◌, ap, subst, arith}
use Rattle.std.specs.Option.{option_map_or}
use Rattle.std.specs.List.{AllByRecursion, flat_map, enumerate_from}
use Rattle.std.specs.Str.{bytes_eq}
use Rattle.std.proofs.lemmas.Bool.{cases_lt}
use Rattle.std.proofs.lemmas.List.{length-map}
use Rattle.std.proofs.lemmas.Option.{slice_get_within}
use Rattle.lid_base.specs.Lists.{Among}
use Rattle.lid_base.proofs.Lists.{all_among, among_left, among_flat, filter_among, map_among, get_among, among_get, then_some, bytes_same, among_one}
use Rattle.lid_cover.specs.declared.Cover.{Cover}
use Rattle.lid_cover.specs.Cover.{cover_value}
use Rattle.lid_design.specs.declared.Design.{Design}
use Rattle.lid_design.specs.declared.Model.{Model}
use Rattle.lid_design.specs.declared.Inst.{Inst}
use Rattle.lid_design.specs.declared.Bind.{Bind}
use Rattle.lid_design.specs.Network.{Driver, from_input, from_latch, from_cover, from_connection}
use Rattle.lid_design.specs.Columns.{Column, column, is_among, model_named, instance_model, model_at, is_clock, data_inputs, cell_at, output_at, actuals_of, port_at, drivers_in, drivers, root_inputs, root_outputs}
use Rattle.lid_design.specs.Models.{insts_of, formal_of, formals, number_from}
use Rattle.lid_design.specs.Elaboration.{columns}
use Rattle.lid_design.specs.Loops.{pearls}
use Rattle.lid_design.specs.Walks.{HasNoWalk, WalksEnd}
use Rattle.lid_design.specs.Feeds.{Feeds}
use Rattle.lid_design.specs.WellFormed.{IsWellFormed, IsWellFormedCell}
use Rattle.lid_check_elab.specs.Elaborations.{shown_driver, map_driver, column_at}
use Rattle.lid_check_parts.specs.Parts.{driver_at}
use Rattle.lid_check_rules.specs.Buffers.{passes_on}
use Rattle.lid_check.specs.Acceptance.{IsAccepted}
use Rattle.lid_check.specs.Networks.{IsNetwork}
use Rattle.lid_check.specs.declared.network.Network.{Network}
use Rattle.lid_check_loops.proofs.Numbered.{walk_up}
use Rattle.lid_check_elab.proofs.Every.{driven_column}
use Rattle.lid_check.proofs.Descent.{walks_end}
use Rattle.lid_check_drivers.proofs.Names.{to_among, from_among}
use Rattle.lid_check_drivers.proofs.Passing.{no_root_logic, sound_model}
use Rattle.lid_check_parts.proofs.Finding.{whole_pearls, inst_count, inst_pearl}
use Rattle.lid_net.specs.declared.origin.Origin.{Origin}
use Rattle.lid_net.specs.declared.origin.Origin.TheVariants.{Const, Port}
use Rattle.lid_net_law.specs.Ports.{outputs_at, ports_of, IsPort, IsNoPort}
use Rattle.lid_net.specs.Graphs.{inputs_at, inputs_of, LeadsIn, LeadsTo}
use Rattle.lid_net.proofs.Tracing.{only, source_driven}
use Rattle.lid_net.proofs.Rooted.{RootShape, given, constant, buffer, output, root_shape, root_plain}
use Rattle.lid_check.proofs.Flats.{ports_apart}
use Rattle.lid_net.proofs.Facts.{judged, inputs_ports, source_name, shell_name}
use Rattle.lid_base.proofs.Places.{item_at}

at_root : (d : Design) (m : Model) → slice_get d.models d.root ≡ Some m → model_at d [] ≡ Some m
unfolding model_at
at_root d m h = h

module _ (d : Design) (n : Network) (formed : IsWellFormed d) (accepted : IsAccepted d) (is : IsNetwork d n) where
  abbrev count : ℕ
  count = length n.columns.drivers

  abbrev driver_of : ℕ → Driver Column
  driver_of k = map_driver (column_at d) (shown_driver d (driver_at n.columns.drivers k))

  driver_in : (k : ℕ) → k < count → Among (driver_of k) (drivers d (column_at d k))
  driver_in k less = subst (λ (rs : List (Driver Column)). Among (driver_of k) rs) (sym (only d n is k less)) (inl refl)

  driver_only : (k : ℕ) (r : Driver Column) → k < count → Among r (drivers d (column_at d k)) → r ≡ driver_of k
  driver_only k r less among = among_one r (driver_of k) (subst (λ (rs : List (Driver Column)). Among r rs) (only d n is k less) among)

  -- what is read has a number
  read_at : (k : ℕ) (a : Column) → k < count → Feeds (drivers d) a (column_at d k) → (j : ℕ) × (j < count) × (column_at d j ≡ a)
  read_at k a less feeds =
      let long = length-map n.columns.drivers (shown_driver d) in
      let up = walk_up d (map (shown_driver d) n.columns.drivers) n.columns.starts is.elaborated 1 a k (omega arith) (a, refl, feeds) in
      (up.0, (let l = up.1 in omega arith), up.2)

  module _ (some : 0 < length (insts_of d d.root)) where
    root : (m : Model) × (slice_get d.models d.root ≡ Some m)
    root = item_at d.models d.root formed.rooted

    root_insts : length (insts_of d d.root) ≡ length root.0.insts
    root_insts = ap (λ (o : Option Model). length (option_map_or (λ m. m.insts) o [])) root.1

    shape : (k : ℕ) (net : List ℕ) → k < count → column_at d k ≡ column [] net → RootShape d (driver_of k)
    shape k net less e =
        root_shape d root.0 (at_root d root.0 root.1) root.1 (let l = root_insts in omega arith)
        (all_among (λ m. AllByRecursion IsWellFormedCell m.cells) d.models root.0 formed.cells (get_among d.models d.root root.0 root.1))
        (root_plain d root.0 root.1 (let l = root_insts in omega arith) (no_root_logic d accepted.models.ks accepted.models.after))
        net (driver_of k) (subst (λ (c : Column). Among (driver_of k) (drivers d c)) e (driver_in k less))

    pearl_path : (p : ℕ) (path : List ℕ) → slice_get (pearls d) p ≡ Some path → path ≡ p ∷ []
    pearl_path p path here =
        let less = slice_get_within (pearls d) p path here in
        let many = inst_count d some in
        let e : Some path ≡ Some (p ∷ []) = sym here ∙ inst_pearl d p (omega arith) in
        cc

    root_portless : (k : ℕ) (net : List ℕ) → k < count → column_at d k ≡ column [] net → ((j : ℕ) → driver_of k ≡ from_input j → ⊥) → IsNoPort d (column_at d k)
    root_portless k net less e other zero place h = other place (sym (driver_only k (from_input place) less (source_driven d (column_at d k) place h)))
    root_portless k net less e other (suc p) place h =
        let x = shell_name d (column_at d k) p place h in
        let path : [] ≡ p ∷ [] = ap (λ (c : Column). c.path) (sym e) ∙ x.at ∙ pearl_path p x.path x.here in
        absurd (cc)

    root_led : (f k : ℕ) (net : List ℕ) → k < count → column_at d k ≡ column [] net → HasNoWalk (drivers d) f (column_at d k) → (o : Origin) × LeadsTo d (column_at d k) o
    root_led zero k net less e nowalk = absurd (nowalk (column_at d k) refl)
    root_led (suc f) k net less e nowalk = by (shape k net less e) (λ j a. root_led f j a)
      where
        by : RootShape d (driver_of k) → ((j : ℕ) (a : List ℕ) → j < count → column_at d j ≡ column [] a → HasNoWalk (drivers d) f (column_at d j) → (o : Origin) × LeadsTo d (column_at d j) o) → (o : Origin) × LeadsTo d (column_at d k) o
        by (given j s) next = (Port 0 j, (0, inputs_ports d formed accepted (column_at d k) j (only d n is k less ∙ ap (λ (r : Driver Column). r ∷ []) s)))
        by (constant cover s) next = (
          Const (cover_value cover []),
          (
            0,
            (
              root_portless k net less e (λ j g. absurd (let x : from_cover cover [] ≡ from_input j = sym s ∙ g in cc)),
              cover,
              subst (λ (r : Driver Column). Among r (drivers d (column_at d k))) s (driver_in k less),
              refl,
            ),
          ),
        )
        by (buffer cover a s passes) next =
            let mem : Among {A = Driver Column} (from_cover cover (column [] a ∷ [])) (drivers d (column_at d k)) = subst (λ (r : Driver Column). Among r (drivers d (column_at d k))) s (driver_in k less) in
            let j = read_at k (column [] a) less (from_cover cover (column [] a ∷ []), mem, inl refl) in
            let mem_j : Among {A = Driver Column} (from_cover cover (column_at d j.0 ∷ [])) (drivers d (column_at d k)) = subst (λ (c : Column). Among {A = Driver Column} (from_cover cover (c ∷ [])) (drivers d (column_at d k))) (sym j.2) mem in
            let led = next j.0 a j.1 j.2 (λ b w. nowalk b (column_at d j.0, w, (from_cover cover (column_at d j.0 ∷ []), mem_j, inl refl))) in (
              led.0,
              (
                suc led.1.0,
                (
                  root_portless k net less e (λ i g. absurd (let x : from_cover cover (column [] a ∷ []) ≡ from_input i = sym s ∙ g in cc)),
                  column_at d j.0,
                  inr (cover, passes, mem_j),
                  led.1.1,
                ),
              ),
            )
        by (output i place formal s port) next = (
          Port (suc i) place,
          (
            1,
            (
              root_portless k net less e (λ j g. absurd (let x : from_connection (column (i ∷ []) formal) ≡ from_input j = sym s ∙ g in cc)),
              column (i ∷ []) formal,
              inl (subst (λ (r : Driver Column). Among r (drivers d (column_at d k))) s (driver_in k less)),
              port,
            ),
          ),
        )

    ends : WalksEnd (drivers d) (suc (length (columns d)))
    ends = walks_end (drivers d) (λ c loop. accepted.loops c loop) (columns d) (driven_column d (judged d formed accepted))

    from_root : (k : ℕ) (net : List ℕ) → k < count → column_at d k ≡ column [] net → (o : Origin) × LeadsTo d (column_at d k) o
    from_root k net less e = root_led (suc (length (columns d))) k net less e (ends (column_at d k))

    -- a data input of an instance is bound to a net of the root
    bound_to : (i : ℕ) (sub : Model) (net : List ℕ) → model_at d (i ∷ []) ≡ Some sub → Among net (data_inputs d sub) → (actual : List ℕ) × Among {A = Driver Column} (from_connection (column [] actual)) (drivers d (column (i ∷ []) net))
    unfolding drivers data_inputs model_at number_from
    bound_to i sub net body among =
        let inst = then_some (slice_get root.0.insts i) (λ (x : Inst). model_named d x.model) sub (ap (option_and_then (instance_model d i)) (sym (at_root d root.0 root.1)) ∙ body) in
        let sound = (sound_model d accepted.models d.root root.0 ([], refl) root.1).insts i inst.0 sub inst.1 inst.2 in
        let kept = filter_among (λ x. not (is_clock d sub x)) net sub.inputs among in
        let bind = map_among formal_of net inst.0.binds (to_among net (formals inst.0) (sound.bound net among)) in
        let b = bind.0 in
        let here : Among {A = Driver Column} (from_connection (column [] b.actual)) (actuals_of [] net inst.0) =
        among_flat (λ (x : Bind). cond (bytes_eq x.formal net) (from_connection (column [] x.actual) ∷ []) []) b (from_connection (column [] b.actual)) inst.0.binds bind.1
        (subst (λ (v : Bool). Among {A = Driver Column} (from_connection (column [] b.actual)) (cond v (from_connection (column [] b.actual) ∷ []) [])) (sym (bytes_same b.formal net (sym bind.2))) (inl refl)) in
        let free : is_clock d sub net ≡ false = no_of (is_clock d sub net) kept.1 in
        let port : Among {A = Driver Column} (from_connection (column [] b.actual)) (port_at d sub (i ∷ []) net) =
        subst (λ (v : Bool). Among {A = Driver Column} (from_connection (column [] b.actual)) (cond v (option_map_or (actuals_of [] net) (option_and_then (λ around. slice_get around.insts i) (model_at d [])) []) [])) (sym (from_among net sub.inputs kept.0))
        (subst (λ (o : Option Inst). Among {A = Driver Column} (from_connection (column [] b.actual)) (option_map_or (actuals_of [] net) o [])) (sym (ap (option_and_then (λ (around : Model). slice_get around.insts i)) (at_root d root.0 root.1) ∙ inst.1)) here) in
        let cells = flat_map (cell_at (i ∷ []) net) sub.cells in
        let outs = flat_map (output_at d (i ∷ []) net) (enumerate_from 0 sub.insts) in (
          b.actual,
          subst (λ (o : Option Model). Among {A = Driver Column} (from_connection (column [] b.actual)) (option_map_or (drivers_in d (i ∷ []) net) o [])) (sym body)
              (subst (λ (v : Bool). Among {A = Driver Column} (from_connection (column [] b.actual)) (cond v [] ((port_at d sub (i ∷ []) net ++ cells) ++ outs))) (sym free)
              (among_left (from_connection (column [] b.actual)) (port_at d sub (i ∷ []) net ++ cells) outs (among_left (from_connection (column [] b.actual)) (port_at d sub (i ∷ []) net) cells port))),
        )
      where
        no_of : (b : Bool) → not b ≡ true → b ≡ false
        no_of true e = absurd (let f : false ≡ true = e in cc)
        no_of false e = refl

    shell_portless : (i : ℕ) (sub : Model) (net : List ℕ) → model_at d (i ∷ []) ≡ Some sub → Among net (data_inputs d sub) → IsNoPort d (column (i ∷ []) net)
    shell_portless i sub net body among zero place h =
        let path : i ∷ [] ≡ [] = (source_name d (column (i ∷ []) net) place h).1 in
        absurd (cc)
    shell_portless i sub net body among (suc p) place h =
        let x = shell_name d (column (i ∷ []) net) p place h in
        let model : sub ≡ x.model = (let e : Some sub ≡ Some x.model = sym body ∙ ap (model_at d) x.at ∙ x.body in cc) in
        ports_apart d accepted.outputs p x.path net x.model x.here x.body (subst (λ (m : Model). Among net (data_inputs d m)) model among) (get_among x.model.outputs place net x.name)

    from_shell : (i k : ℕ) (sub : Model) (net : List ℕ) → k < count → column_at d k ≡ column (i ∷ []) net → model_at d (i ∷ []) ≡ Some sub → Among net (data_inputs d sub) → (o : Origin) × LeadsTo d (column_at d k) o
    from_shell i k sub net less e body among =
        let bound = bound_to i sub net body among in
        let mem : Among {A = Driver Column} (from_connection (column [] bound.0)) (drivers d (column_at d k)) = subst (λ (c : Column). Among {A = Driver Column} (from_connection (column [] bound.0)) (drivers d c)) (sym e) bound.1 in
        let j = read_at k (column [] bound.0) less (from_connection (column [] bound.0), mem, inl refl) in
        let led = from_root j.0 bound.0 j.1 j.2 in (
          led.0,
          (
            suc led.1.0,
            (
              subst (IsNoPort d) (sym e) (shell_portless i sub net body among),
              column_at d j.0,
              inl (subst (λ (c : Column). Among {A = Driver Column} (from_connection c) (drivers d (column_at d k))) (sym j.2) mem),
              led.1.1,
            ),
          ),
        )

    -- an input of a node, where the root has instances
    some_led : (i k : ℕ) → k < count → Among (column_at d k) (inputs_of d (suc i)) → (o : Origin) × LeadsTo d (column_at d k) o
    unfolding inputs_of
    some_led i k less among = by (eqb i (length (pearls d))) among
      where
        at_model : (path : List ℕ) → slice_get (pearls d) i ≡ Some path → (o : Option Model) → model_at d path ≡ o → Among (column_at d k) (option_map_or (λ m. map (column path) (data_inputs d m)) o []) → (o : Origin) × LeadsTo d (column_at d k) o
        at_model path here None body h = absurd h
        at_model path here (Some sub) body h =
            let net = map_among (column path) (column_at d k) (data_inputs d sub) h in
            let at = pearl_path i path here in
            from_shell i k sub net.0 less (net.2 ∙ ap (λ (p : List ℕ). column p net.0) at) (ap (model_at d) (sym at) ∙ body) net.1

        at_pearl : (o : Option (List ℕ)) → slice_get (pearls d) i ≡ o → Among (column_at d k) (option_map_or (inputs_at d) o []) → (o : Origin) × LeadsTo d (column_at d k) o
        at_pearl None here h = absurd h
        at_pearl (Some path) here h = at_model path here (model_at d path) refl h

        by : (b : Bool) → Among (column_at d k) (cond b (map (column []) (root_outputs d)) (option_map_or (inputs_at d) (slice_get (pearls d) i) [])) → (o : Origin) × LeadsTo d (column_at d k) o
        by true h = let net = map_among (column []) (column_at d k) (root_outputs d) h in from_root k net.0 less net.2
        by false h = at_pearl (slice_get (pearls d) i) refl h

  -- where it has none, inputs are ports
  none_led : length (insts_of d d.root) ≡ 0 → (i : ℕ) (c : Column) → Among c (inputs_of d (suc i)) → (o : Origin) × LeadsTo d c o
  unfolding inputs_of ports_of model_at
  none_led none i c among = by (eqb i (length (pearls d))) among
    where
      first : slice_get (pearls d) 0 ≡ Some []
      first = ap (λ (ps : List (List ℕ)). slice_get ps 0) (whole_pearls d none)

      outs : ports_of d 1 ≡ map (column []) (root_outputs d)
      outs = ap (λ (o : Option (List ℕ)). option_map_or (outputs_at d) o []) first ∙ by_root (slice_get d.models d.root)
        where
          by_root : (o : Option Model) → option_map_or (λ m. map (column []) m.outputs) o [] ≡ map (column []) (option_map_or (λ m. m.outputs) o [])
          by_root None = refl
          by_root (Some m) = refl

      ins : inputs_at d [] ≡ map (column []) (root_inputs d)
      ins = by_root (slice_get d.models d.root)
        where
          by_root : (o : Option Model) → option_map_or (λ m. map (column []) (data_inputs d m)) o [] ≡ map (column []) (option_map_or (data_inputs d) o [])
          by_root None = refl
          by_root (Some m) = refl

      at_pearl : (ps : List (List ℕ)) → ps ≡ [] ∷ [] → (j : ℕ) → Among c (option_map_or (inputs_at d) (slice_get ps j) []) → (o : Origin) × LeadsTo d c o
      at_pearl ps e zero h =
          let at = among_get (map (column []) (root_inputs d)) c (subst (λ (cs : List Column). Among c cs) (ap (λ (qs : List (List ℕ)). option_map_or (inputs_at d) (slice_get qs 0) []) e ∙ ins) h) in
          (Port 0 at.0, (0, at.1))
      at_pearl ps e (suc j) h = absurd (subst (λ (qs : List (List ℕ)). Among c (option_map_or (inputs_at d) (slice_get qs (suc j)) [])) e h)

      by : (b : Bool) → Among c (cond b (map (column []) (root_outputs d)) (option_map_or (inputs_at d) (slice_get (pearls d) i) [])) → (o : Origin) × LeadsTo d c o
      by true h =
          let at = among_get (map (column []) (root_outputs d)) c h in
          (Port 1 at.0, (0, ap (λ (cs : List Column). slice_get cs at.0) outs ∙ at.1))
      by false h = at_pearl (pearls d) (whole_pearls d none) i h

  -- each input of a node is led back to something
  pub inputs_led : (i k : ℕ) → k < count → Among (column_at d k) (inputs_of d (suc i)) → (o : Origin) × LeadsTo d (column_at d k) o
  inputs_led i k less among = by (cases_lt 0 (length (insts_of d d.root)))
    where
      by : (0 < length (insts_of d d.root)) ⊎ (length (insts_of d d.root) ≤ 0) → (o : Origin) × LeadsTo d (column_at d k) o
      by (inl some) = some_led some i k less among
      by (inr none) = none_led (omega arith) i (column_at d k) among
