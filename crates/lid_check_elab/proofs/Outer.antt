-- The scope around an instance, and its drivers.
use Rattle.std.proofs.Common.{◌≡◌, ◌⊎◌, ℕ, ◌+◌, ◌<◌, List, [], ◌∷◌, ◌++◌, length, map, get_or, option_map, Option, Some, None, Result, Ok, Err, OnOk, option_and_then, slice_get, inl, inr, refl, sym, ◌∙◌, ap, subst, arith, length-append}
use Rattle.std.specs.Prelude.{slice_index_or}
use Rattle.std.specs.Option.{option_map_or}
use Rattle.std.specs.List.{All}
use Rattle.std.proofs.lemmas.List.{length-map}
use Rattle.std.proofs.lemmas.Option.{slice_get_within, slice_get-map, slice_get-get_or, get_or_from_slice_get}
use Rattle.lid_base.proofs.Lists.{get_among, then_some}
use Rattle.lid_design.specs.declared.Design.{Design}
use Rattle.lid_design.specs.declared.Model.{Model}
use Rattle.lid_design.specs.declared.Inst.{Inst}
use Rattle.lid_design.specs.Network.{Driver, from_input}
use Rattle.lid_design.specs.Columns.{Column, column}
use Rattle.lid_design.specs.Models.{nets, insts_of, instance_number, number_named, number_from, IsReached, data_inputs_of}
use Rattle.lid_design.specs.Elaboration.{model_nets, columns}
use Rattle.lid_check_elab.specs.Numbers.{start_of}
use Rattle.lid_check_drivers.specs.Locals.{locals, actual_for, values_of}
use Rattle.lid_check_elab.specs.Templates.{shown_local, net_place, placed_driver, IsSmallLocal}
use Rattle.lid_check_drivers.specs.Judged.{IsJudged}
use Rattle.lid_check_elab.specs.Scopes.{IsOnlyDriver, ArePlaced, IsAround, IsScopeAt, IsOuter, picked_driver, IsSmallAt}
use Rattle.lid_check_elab.specs.Parts.{places_in_inst, IsPicked, IsTemplate, AreTemplates}
use Rattle.lid_check_elab.specs.declared.template.LocalDriver.{LocalDriver}
use Rattle.lid_check_elab.specs.declared.template.Template.{Template}
use Rattle.lid_check_elab.specs.declared.placing.Scope.{Scope}
use Rattle.lid_check_elab.specs.declared.placing.Around.{Around}
use Rattle.lid_check_elab.proofs.Numbering.{starts_at}
use Rattle.lid_check_elab.proofs.Located.{get_split}
use Rattle.lid_check_elab.proofs.Binding.{bound_in}
use Rattle.lid_check_drivers.proofs.Limits.{few_columns}
use Rattle.lid_check_elab.proofs.Placed.{FitsAround, at_root, in_inst, net_right, net_small}
use Rattle.lid_base.proofs.Options.{map_some}
use Rattle.lid_base.proofs.Places.{item_at}

-- the scope around an instance by its template
pub record OuterInst (d : Design) (ts : List Template) (path : List ℕ) (k : ℕ) (a : Around) : Type 0 where
  pub up : List ℕ
  pub is_path : path ≡ a.inst ∷ up
  pub leads : number_from d d.root up ≡ Some a.model
  pub start : start_of d up ≡ a.start
  pub t : Template
  pub here : slice_get ts a.model ≡ Some t
  pub inst : Inst
  pub at : slice_get (insts_of d a.model) a.inst ≡ Some inst
  pub actuals : slice_get t.actuals a.inst ≡ Some (map (λ formal. net_place d a.model (actual_for inst formal)) (data_inputs_of d k))

pub outer_inst : (d : Design) (ts : List Template) → AreTemplates d ts → (path : List ℕ) (p : Scope) (a : Around) → IsScopeAt d path p → p.around ≡ Some a → OuterInst d ts path p.model a
unfolding number_from
outer_inst d ts all path p a at is =
    let outer : (up : List ℕ) × (path ≡ a.inst ∷ up) × (number_from d d.root up ≡ Some a.model) × (start_of d up ≡ a.start) = subst (IsAround d path) is at.outer in
    let leads : option_and_then (instance_number d a.inst) (number_from d d.root outer.0) ≡ Some p.model = ap (number_from d d.root) (sym outer.1) ∙ at.leads in
    let names : instance_number d a.inst a.model ≡ Some p.model = sym (ap (option_and_then (instance_number d a.inst)) outer.2) ∙ leads in
    let found = then_some (slice_get (insts_of d a.model) a.inst) (λ inst. number_named d inst.model) p.model names in
    let t = all a.model (outer.0, outer.2) in
    record {
      up = outer.0;
      is_path = outer.1;
      leads = outer.2;
      start = outer.3;
      t = t.0;
      here = t.1;
      inst = found.0;
      at = found.1;
      actuals =
          ap (λ (rows : List (List ℕ)). slice_get rows a.inst) t.2.actuals
          ∙ slice_get-map (places_in_inst d a.model) (insts_of d a.model) a.inst
          ∙ ap (option_map (places_in_inst d a.model)) found.1
          ∙ ap Some (bound_in d a.model a.inst p.model found.0 found.1 names);
    }

-- what stands around fits
pub fits : (d : Design) (path : List ℕ) (k : ℕ) (around : Option (ℕ × List ℕ)) → (judged : IsJudged d) → IsOuter d path k around → FitsAround d judged k path around
fits d path k None judged outer = at_root outer
fits d path k (Some around) judged w = by (slice_get d.models w.around) refl w.at
  where
    by : (o : Option Model) → slice_get d.models w.around ≡ o → slice_get (option_map_or (λ m. m.insts) o []) w.i ≡ Some w.inst → FitsAround d judged k path (Some around)
    by None e none = absurd (let f : None ≡ Some w.inst = none in cc)
    by (Some m) e here = in_inst around.0 around.1 (record { up = w.up; i = w.i; around = w.around; body = m; inst = w.inst; is_path = w.is_path; leads = w.leads; there = e; at = here; is_start = w.is_start; each = w.is_actuals })

module _ (d : Design) (judged : IsJudged d) (path : List ℕ) (k : ℕ) (leads : number_from d d.root path ≡ Some k) (t : Template) (is : IsTemplate d k t) (around : Option (ℕ × List ℕ)) (outer : IsOuter d path k around) where
  -- what a pick stands for
  record IsPlaced (net : List ℕ) (pick : ℕ) : Type 0 where
    right : IsOnlyDriver d (column path net) (picked_driver d (start_of d path) t.offsets around t.locals pick)
    small : IsSmallAt d t.offsets around (slice_get t.locals pick)
    there : pick < length t.locals

  at_net : (j pick : ℕ) (net : List ℕ) → slice_get t.picks j ≡ Some pick → slice_get (model_nets d k) j ≡ Some net → IsPlaced net pick
  at_net j pick net at named = by (slice_get d.models k) refl
    where
      p : IsPicked d k t.locals pick net
      p = is.picked.each j pick net at named

      driver : Option LocalDriver → Driver ℕ
      driver o = option_map_or (λ x. placed_driver (start_of d path) t.offsets around (shown_local d x)) o (from_input 0)

      by : (o : Option Model) → slice_get d.models k ≡ o → IsPlaced net pick
      by None e = absurd (let none : None ≡ Some net = ap (λ (o : Option Model). slice_get (option_map_or (nets d) o []) j) (sym e) ∙ named in cc)
      by (Some m) e =
          let names : model_nets d k ≡ nets d m = ap (λ (o : Option Model). option_map_or (nets d) o []) e in
          let among = get_among (nets d m) j net (ap (λ (ns : List (List ℕ)). slice_get ns j) (sym names) ∙ named) in
          let one : values_of net (locals d m) ≡ p.local ∷ [] = ap (λ (o : Option Model). values_of net (option_map_or (locals d) o [])) (sym e) ∙ p.only in
          let insts : length t.offsets ≡ length m.insts = is.offsets.long ∙ ap (λ (o : Option Model). length (option_map_or (λ m. m.insts) o [])) e in
          let fit = fits d path k around judged outer in
          let right = net_right d judged path k m leads e t.offsets is.offsets.each insts around fit net among p.local one in
          let small = net_small d judged path k m leads e t.offsets is.offsets.each insts (few_columns d judged) around fit net p.local one in
          record {
            right = subst (IsOnlyDriver d (column path net)) (ap (placed_driver (start_of d path) t.offsets around) (sym p.shown) ∙ sym (ap driver p.here)) right;
            small = subst (IsSmallAt d t.offsets around) (sym p.here) (subst (IsSmallLocal t.offsets around) (sym p.shown) small);
            there = slice_get_within t.locals pick p.driver p.here;
          }

  placed_at : (j e : ℕ) → j < length t.picks → (net : List ℕ) × (slice_get (model_nets d k) j ≡ Some net) × IsPlaced net (slice_index_or t.picks j e)
  placed_at j e less =
      let named = item_at (model_nets d k) j (let l = is.picked.long in omega arith) in
      (named.0, named.1, at_net j (slice_index_or t.picks j e) named.0 (slice_get-get_or t.picks j e less) named.1)

  -- the picks are places of drivers, whose numbers are small, as slices show them
  pub record PicksFit (os : List ℕ) (ls : List LocalDriver) (ps : List ℕ) : Type 0 where
    pub within : All (λ pick. pick < length ls) ps
    pub small : All (λ pick. IsSmallAt d os around (slice_get ls pick)) ps

  all_fit : PicksFit t.offsets t.locals t.picks
  all_fit = record {
    within = λ j e less. (placed_at j e less).2.there;
    small = λ j e less. (placed_at j e less).2.small;
  }

  pub picks_fit : {os : List ℕ} {ls : List LocalDriver} {ps : List ℕ} → os ≡ t.offsets → ls ≡ t.locals → ps ≡ t.picks → PicksFit os ls ps
  picks_fit {os} {ls} {ps} a b e =
      subst (λ (os : List ℕ). PicksFit os ls ps) (sym a)
      (subst (λ (ls : List LocalDriver). PicksFit t.offsets ls ps) (sym b)
      (subst (λ (ps : List ℕ). PicksFit t.offsets t.locals ps) (sym e) all_fit))

  -- what is written goes on with the columns of the place
  pub placed_more : (old new : List (Driver ℕ)) → start_of d path ≡ length old → ArePlaced d old → new ≡ old ++ map (picked_driver d (start_of d path) t.offsets around t.locals) t.picks → ArePlaced d new
  placed_more old new start before whole n c s at here = by (get_split old (map (picked_driver d (start_of d path) t.offsets around t.locals) t.picks) n s (ap (λ (ss : List (Driver ℕ)). slice_get ss n) (sym whole) ∙ here))
    where
      driver : ℕ → Driver ℕ
      driver pick = picked_driver d (start_of d path) t.offsets around t.locals pick

      by : (slice_get old n ≡ Some s) ⊎ ((j : ℕ) × (n ≡ length old + j) × (slice_get (map driver t.picks) j ≡ Some s)) → IsOnlyDriver d c s
      by (inl first) = before n c s at first
      by (inr (j, sum, later)) =
          let found = map_some driver (slice_get t.picks j) s (sym (slice_get-map driver t.picks j) ∙ later) in
          let named = item_at (model_nets d k) j (let l = is.picked.long in let w = slice_get_within t.picks j found.0 found.1 in omega arith) in
          let column_here = starts_at d judged path k j named.0 leads named.1 in
          let number : n ≡ start_of d path + j = omega arith in
          let same_column : column path named.0 ≡ c = (let f : Some (column path named.0) ≡ Some c = sym column_here ∙ ap (slice_get (columns d)) (sym number) ∙ at in cc) in
          subst (λ (x : Column). IsOnlyDriver d x s) same_column (subst (IsOnlyDriver d (column path named.0)) found.2 (at_net j found.0 named.0 found.1 named.1).right)

pub same_network : (d : Design) (s r : ℕ) (os qs : List ℕ) (around : Option (ℕ × List ℕ)) (ls ms : List LocalDriver) (ps ns : List ℕ) → s ≡ r → os ≡ qs → ls ≡ ms → ps ≡ ns → map (picked_driver d s os around ls) ps ≡ map (picked_driver d r qs around ms) ns
same_network d s r os qs around ls ms ps ns a b e f =
    ap (λ (s : ℕ). map (picked_driver d s os around ls) ps) a
    ∙ ap (λ (os : List ℕ). map (picked_driver d r os around ls) ps) b
    ∙ ap (λ (ls : List LocalDriver). map (picked_driver d r qs around ls) ps) e
    ∙ ap (λ (ps : List ℕ). map (picked_driver d r qs around ms) ps) f

pub on_ok : {A E : Type 0} {P Q : Type 0} → (P → Q) → (r : Result A E) → OnOk r P → OnOk r Q
on_ok f (Ok x) h = f h
on_ok f (Err e) h = tt

pub lengths : {A B C : Type 0} (f : A → B) (g : C → B) (xs ys : List A) (zs : List C) → map f xs ≡ map f ys ++ map g zs → length xs ≡ length ys + length zs
lengths f g xs ys zs whole =
    let a = length-map xs f in
    let b = length-map ys f in
    let e = length-map zs g in
    let h = ap length whole in
    let i = length-append (map f ys) (map g zs) in
    omega arith

-- the template of a place
pub template_at : (d : Design) (ts : List Template) → AreTemplates d ts → (k : ℕ) → IsReached d k → (t : Template) → t ≡ get_or ts k t → IsTemplate d k t
template_at d ts all k reached t is =
    let found = all k reached in
    subst (IsTemplate d k) (sym (get_or_from_slice_get ts k found.0 t found.1) ∙ sym is) found.2

pub template_within : (d : Design) (ts : List Template) → AreTemplates d ts → (k : ℕ) → IsReached d k → k < length ts
template_within d ts all k reached = let found = all k reached in slice_get_within ts k found.0 found.1
