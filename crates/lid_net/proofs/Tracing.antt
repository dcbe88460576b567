-- Numbers that are led back are columns that are led back.
use Rattle.std.proofs.Common.{◌≡◌, ◌<◌, ◌≤◌, ◌⊎◌, ◌↔◌, ◌+◌, ℕ, zero, suc, Bool, true, false, not, cond, ◌&&◌, List, [], ◌∷◌, ◌++◌, length, map, get_or, Option, Some, None, slice_get, inl, inr, refl, sym, ◌∙◌, ap, subst, arith}
use Rattle.std.specs.List.{AllByRecursion}
use Rattle.std.proofs.lemmas.List.{length-map, get_or_default}
use Rattle.std.proofs.lemmas.Option.{slice_get-get_or, slice_get_within, get_or_from_slice_get}
use Rattle.lid_base.specs.Lists.{Among}
use Rattle.lid_base.proofs.Lists.{all_among, among_left, among_get, among_one}
use Rattle.lid_cover.specs.declared.Cover.{Cover}
use Rattle.lid_cover.specs.Cover.{cover_value}
use Rattle.lid_design.specs.declared.Design.{Design}
use Rattle.lid_design.specs.declared.Model.{Model}
use Rattle.lid_design.specs.Network.{Driver, from_input, from_latch, from_cover, from_connection}
use Rattle.lid_design.specs.Columns.{Column, column, drivers, root_inputs}
use Rattle.lid_design.specs.Walks.{read_before}
use Rattle.lid_design.specs.Feeds.{read_now}
use Rattle.lid_design.specs.Elaboration.{columns}
use Rattle.lid_check_elab.specs.declared.driver.ColumnDriver.{ColumnDriver}
use Rattle.lid_check_elab.specs.declared.driver.ColumnDriver.TheVariants.{Input, Latch, Cover as OfCover, Connection}
use Rattle.lid_check_elab.specs.Covers.{cover_in}
use Rattle.lid_check_elab.specs.Elaborations.{shown_driver, map_driver, column_at, IsElaborated, IsDrivenBy}
use Rattle.lid_check_parts.specs.Parts.{driver_at, HasCover}
use Rattle.lid_check_rules.specs.Buffers.{passes_on}
use Rattle.lid_check.specs.Networks.{IsNetwork}
use Rattle.lid_check.specs.declared.network.Network.{Network}
use Rattle.lid_net_law.specs.Ports.{IsPassedOn, ports_of, IsPort, IsNoPort}
use Rattle.lid_net_law.proofs.Inputs.{root_input_drives}
use Rattle.lid_net.specs.declared.origin.Origin.{Origin}
use Rattle.lid_net.specs.declared.origin.Origin.TheVariants.{Const, Port}
use Rattle.lid_net.specs.declared.step.BackStep.{BackStep}
use Rattle.lid_net.specs.declared.step.BackStep.TheVariants.{Ends, Passes, Stops}
use Rattle.lid_net.specs.Steps.{step_from, origin_at, LeadsWithin, IsLedTo, AreOrigins}
use Rattle.lid_check.proofs.Flats.{driven}
use Rattle.lid_net.specs.Graphs.{LeadsIn, LeadsTo}
use Rattle.lid_net.specs.Systems.{AreColumnsLed}

shown_at : (d : Design) (ds : List ColumnDriver) (k : ℕ) (s : Driver ℕ) → k < length ds → slice_get (map (shown_driver d) ds) k ≡ Some s → s ≡ shown_driver d (driver_at ds k)
shown_at d [] k s less here = absurd (omega arith)
shown_at d (x ∷ ds) zero s less here = let e : Some (shown_driver d x) ≡ Some s = here in cc
shown_at d (x ∷ ds) (suc k) s less here = shown_at d ds k s (omega arith) here

-- what a port of the source is
source_port_is : (d : Design) (c : Column) (place : ℕ) → IsPort d c 0 place → (place < length (root_inputs d)) × (c ≡ column [] (get_or (root_inputs d) place []))
unfolding ports_of
source_port_is d c place h = by (root_inputs d) place h
  where
    by : (names : List (List ℕ)) (j : ℕ) → slice_get (map (column []) names) j ≡ Some c → (j < length names) × (c ≡ column [] (get_or names j []))
    by [] j e = absurd (let f : None ≡ Some c = e in cc)
    by (name ∷ names) zero e = (omega arith, (let f : Some (column [] name) ≡ Some c = e in cc))
    by (name ∷ names) (suc j) e = let l = by names j e in (omega arith, l.1)

-- a port of the source is driven by the rows
pub source_driven : (d : Design) (c : Column) (place : ℕ) → IsPort d c 0 place → Among {A = Driver Column} (from_input place) (drivers d c)
source_driven d c place h =
    let is = source_port_is d c place h in
    subst (λ (x : Column). Among {A = Driver Column} (from_input place) (drivers d x)) (sym is.1) (root_input_drives d place is.0)

abbrev pub ArePortsOnce : Design → Type 0
ArePortsOnce d = (c : Column) (a b i j : ℕ) → IsPort d c a i → IsPort d c b j → (a ≡ b) × (i ≡ j)

-- what is driven by the rows is a port of the source
abbrev pub AreInputsPorts : Design → Type 0
AreInputsPorts d = (c : Column) (j : ℕ) → drivers d c ≡ from_input j ∷ [] → IsPort d c 0 j

-- the marks are the ports of shells
pub record AreShellMarks (d : Design) (count : ℕ) (marks : List (Option Origin)) : Type 0 where
  pub only : (k : ℕ) (o : Origin) → k < count → origin_at marks k ≡ Some o → (i : ℕ) × (place : ℕ) × (o ≡ Port (suc i) place) × IsPort d (column_at d k) (suc i) place
  pub all : (k i place : ℕ) → k < count → IsPort d (column_at d k) (suc i) place → origin_at marks k ≡ None → ⊥

module _ (d : Design) (n : Network) (is : IsNetwork d n) where
  abbrev pub drivers_list : List ColumnDriver
  drivers_list = n.columns.drivers

  pub long : length (map (shown_driver d) n.columns.drivers) ≡ length n.columns.drivers
  long = length-map n.columns.drivers (shown_driver d)

  pub driven_of : (k : ℕ) → k < length n.columns.drivers → IsDrivenBy d (map (shown_driver d) n.columns.drivers) k (column_at d k)
  driven_of k less = let whole = is.elaborated.whole in let l = long in is.elaborated.each k (column_at d k) (slice_get-get_or (columns d) k (column [] []) (omega arith))

  pub only : (k : ℕ) → k < length n.columns.drivers → drivers d (column_at d k) ≡ map_driver (column_at d) (shown_driver d (driver_at n.columns.drivers k)) ∷ []
  only = driven d n.columns.drivers n.columns.starts is.elaborated

module _ (d : Design) (n : Network) (is : IsNetwork d n) (covers : AllByRecursion (HasCover d) n.columns.drivers) (marks : List (Option Origin)) (right : AreShellMarks d (length n.columns.drivers) marks) (once : ArePortsOnce d) (inputs : AreInputsPorts d) where
  abbrev ds : List ColumnDriver
  ds = n.columns.drivers

  below : (k a : ℕ) → k < length ds → Among a (read_now (shown_driver d (driver_at ds k))) → a < length ds
  below k a less among =
      let by = driven_of d n is k less in
      let l = long d n is in
      let here : Among a (read_now by.driver) = subst (λ (s : Driver ℕ). Among a (read_now s)) (sym (shown_at d ds k by.driver less by.here)) among in
      let h = all_among (λ (b : ℕ). b < length (map (shown_driver d) ds)) (read_now by.driver ++ read_before by.driver) a by.below (among_left a (read_now by.driver) (read_before by.driver) here) in
      omega arith

  driver_is : (k : ℕ) (r : Driver Column) → k < length ds → Among r (drivers d (column_at d k)) → r ≡ map_driver (column_at d) (shown_driver d (driver_at ds k))
  driver_is k r less among = among_one r (map_driver (column_at d) (shown_driver d (driver_at ds k))) (subst (λ (rs : List (Driver Column)). Among r rs) (only d n is k less) among)

  given : (k place : ℕ) → k < length ds → IsPort d (column_at d k) 0 place → driver_at ds k ≡ Input place
  given k place less h = by (driver_at ds k) (driver_is k (from_input place) less (source_driven d (column_at d k) place h))
    where
      by : (x : ColumnDriver) → from_input place ≡ map_driver (column_at d) (shown_driver d x) → x ≡ Input place
      by (Input p) e = let f : from_input place ≡ from_input p = e in cc
      by (Latch b a) e = absurd (let f : from_input place ≡ from_latch b (column_at d a) = e in cc)
      by (OfCover m c ks) e = absurd (let f : from_input place ≡ from_cover (cover_in d m c) (map (column_at d) ks) = e in cc)
      by (Connection a) e = absurd (let f : from_input place ≡ from_connection (column_at d a) = e in cc)

  no_port : (k : ℕ) → k < length ds → origin_at marks k ≡ None → ((place : ℕ) → driver_at ds k ≡ Input place → ⊥) → IsNoPort d (column_at d k)
  no_port k less none other zero place h = other place (given k place less h)
  no_port k less none other (suc i) place h = right.all k i place less h none

  unmarked : (k : ℕ) → k < length ds → IsNoPort d (column_at d k) → origin_at marks k ≡ None
  unmarked k less portless = by (origin_at marks k) refl
    where
      by : (o : Option Origin) → origin_at marks k ≡ o → o ≡ None
      by None e = refl
      by (Some o) e = let m = right.only k o less e in absurd (portless (suc m.0) m.1 m.3)

  -- from numbers to columns
  ends_here : (k : ℕ) (o : Origin) → k < length ds → origin_at marks k ≡ None → step_from d (driver_at ds k) ≡ Ends o → LeadsIn d 0 (column_at d k) o
  ends_here k o less none step = by (driver_at ds k) refl step
    where
      by : (x : ColumnDriver) → driver_at ds k ≡ x → step_from d x ≡ Ends o → LeadsIn d 0 (column_at d k) o
      by (Input place) e h =
          let f : Port 0 place ≡ o = (let g : Ends (Port 0 place) ≡ Ends o = h in cc) in
          subst (LeadsIn d 0 (column_at d k)) f (inputs (column_at d k) place (only d n is k less ∙ ap (λ (x : ColumnDriver). map_driver (column_at d) (shown_driver d x) ∷ []) e))
      by (Latch b a) e h = absurd (let g : Stops ≡ Ends o = h in cc)
      by (OfCover m c []) e h =
          let f : Const (cover_value (cover_in d m c) []) ≡ o = (let g : Ends (Const (cover_value (cover_in d m c) [])) ≡ Ends o = h in cc) in
          subst (LeadsIn d 0 (column_at d k)) f (
            no_port k less none (λ place g. absurd (let i : OfCover m c [] ≡ Input place = sym e ∙ g in cc)),
            cover_in d m c,
            subst (λ (rs : List (Driver Column)). Among {A = Driver Column} (from_cover (cover_in d m c) []) rs) (sym (only d n is k less ∙ ap (λ (x : ColumnDriver). map_driver (column_at d) (shown_driver d x) ∷ []) e)) (inl refl),
            refl,
          )
      by (OfCover m c (a ∷ [])) e h = chosen (passes_on (cover_in d m c)) h
        where
          chosen : (v : Bool) → cond v (Passes a) Stops ≡ Ends o → LeadsIn d 0 (column_at d k) o
          chosen true g = absurd (let i : Passes a ≡ Ends o = g in cc)
          chosen false g = absurd (let i : Stops ≡ Ends o = g in cc)
      by (OfCover m c (a ∷ b ∷ more)) e h = absurd (let g : Stops ≡ Ends o = h in cc)
      by (Connection a) e h = absurd (let g : Passes a ≡ Ends o = h in cc)

  pub record Passed (k a : ℕ) : Type 0 where
    pub within : a < length ds
    pub no : (place : ℕ) → driver_at ds k ≡ Input place → ⊥
    pub on : IsPassedOn d (column_at d a) (column_at d k)

  passes_here : (k a : ℕ) → k < length ds → step_from d (driver_at ds k) ≡ Passes a → Passed k a
  passes_here k a less step = by (driver_at ds k) refl step
    where
      reads : (x : ColumnDriver) → driver_at ds k ≡ x → Among a (read_now (shown_driver d x)) → a < length ds
      reads x e among = below k a less (subst (λ (y : ColumnDriver). Among a (read_now (shown_driver d y))) (sym e) among)

      by : (x : ColumnDriver) → driver_at ds k ≡ x → step_from d x ≡ Passes a → Passed k a
      by (Input place) e h = absurd (let g : Ends (Port 0 place) ≡ Passes a = h in cc)
      by (Latch b c) e h = absurd (let g : Stops ≡ Passes a = h in cc)
      by (OfCover m c []) e h = absurd (let g : Ends (Const (cover_value (cover_in d m c) [])) ≡ Passes a = h in cc)
      by (OfCover m c (b ∷ [])) e h = chosen (passes_on (cover_in d m c)) refl h
        where
          chosen : (v : Bool) → passes_on (cover_in d m c) ≡ v → cond v (Passes b) Stops ≡ Passes a → Passed k a
          chosen true p g =
              let same : b ≡ a = (let i : Passes b ≡ Passes a = g in cc) in
              subst (Passed k) same (record {
                within = subst (λ (y : ℕ). y < length ds) (sym same) (reads (OfCover m c (b ∷ [])) e (subst (λ (y : ℕ). Among y (b ∷ [])) same (inl refl)));
                no = λ place i. absurd (let j : OfCover m c (b ∷ []) ≡ Input place = sym e ∙ i in cc);
                on = inr (cover_in d m c, p, subst (λ (rs : List (Driver Column)). Among {A = Driver Column} (from_cover (cover_in d m c) (column_at d b ∷ [])) rs) (sym (only d n is k less ∙ ap (λ (x : ColumnDriver). map_driver (column_at d) (shown_driver d x) ∷ []) e)) (inl refl));
              })
          chosen false p g = absurd (let i : Stops ≡ Passes a = g in cc)
      by (OfCover m c (b ∷ f ∷ more)) e h = absurd (let g : Stops ≡ Passes a = h in cc)
      by (Connection b) e h =
          let same : b ≡ a = (let i : Passes b ≡ Passes a = h in cc) in
          subst (Passed k) same (record {
            within = subst (λ (y : ℕ). y < length ds) (sym same) (reads (Connection b) e (subst (λ (y : ℕ). Among y (b ∷ [])) same (inl refl)));
            no = λ place i. absurd (let j : Connection b ≡ Input place = sym e ∙ i in cc);
            on = inl (subst (λ (rs : List (Driver Column)). Among {A = Driver Column} (from_connection (column_at d b)) rs) (sym (only d n is k less ∙ ap (λ (x : ColumnDriver). map_driver (column_at d) (shown_driver d x) ∷ []) e)) (inl refl));
          })

  down : (m k : ℕ) (o : Origin) → k < length ds → LeadsWithin d ds marks m k o → LeadsIn d m (column_at d k) o
  down zero k o less (inl e) = let mark = right.only k o less e in subst (LeadsIn d 0 (column_at d k)) (sym mark.2) mark.3
  down zero k o less (inr e) = ends_here k o less e.0 e.1
  down (suc m) k o less h =
      let passed = passes_here k h.1 less h.2 in
      (no_port k less h.0 passed.no, column_at d h.1, passed.on, down m h.1 o passed.within h.3)

  -- from columns to numbers
  at_port : (k node place : ℕ) → k < length ds → IsPort d (column_at d k) node place → LeadsWithin d ds marks 0 k (Port node place)
  at_port k zero place less h = by (origin_at marks k) refl
    where
      by : (o : Option Origin) → origin_at marks k ≡ o → LeadsWithin d ds marks 0 k (Port 0 place)
      by None e = inr (e, ap (step_from d) (given k place less h))
      by (Some o) e =
          let m = right.only k o less e in
          let same = (once (column_at d k) 0 (suc m.0) place m.1 h m.3).0 in
          absurd (omega arith)
  at_port k (suc i) place less h = by (origin_at marks k) refl
    where
      by : (o : Option Origin) → origin_at marks k ≡ o → LeadsWithin d ds marks 0 k (Port (suc i) place)
      by None e = absurd (right.all k i place less h e)
      by (Some o) e =
          let m = right.only k o less e in
          let same = once (column_at d k) (suc m.0) (suc i) m.1 place m.3 h in
          inl (e ∙ ap Some (m.2 ∙ ap (λ (x : ℕ). Port x m.1) same.0 ∙ ap (Port (suc i)) same.1))

  none_left : (ks : List ℕ) → [] ≡ map (column_at d) ks → ks ≡ []
  none_left [] e = refl
  none_left (k ∷ ks) e = absurd (let f : [] ≡ column_at d k ∷ map (column_at d) ks = e in cc)

  one_left : (a : Column) (ks : List ℕ) → a ∷ [] ≡ map (column_at d) ks → (k : ℕ) × (ks ≡ k ∷ []) × (a ≡ column_at d k)
  one_left a [] e = absurd (let f : a ∷ [] ≡ [] = e in cc)
  one_left a (k ∷ []) e = (k, refl, (let f : a ∷ [] ≡ column_at d k ∷ [] = e in cc))
  one_left a (k ∷ j ∷ ks) e = absurd (let f : a ∷ [] ≡ column_at d k ∷ column_at d j ∷ map (column_at d) ks = e in cc)

  at_constant : (k : ℕ) (bit : Bool) (cover : Cover) → k < length ds → IsNoPort d (column_at d k) → Among {A = Driver Column} (from_cover cover []) (drivers d (column_at d k)) → cover_value cover [] ≡ bit → LeadsWithin d ds marks 0 k (Const bit)
  at_constant k bit cover less portless among value = inr (unmarked k less portless, by (driver_at ds k) refl (driver_is k (from_cover cover []) less among))
    where
      by : (x : ColumnDriver) → driver_at ds k ≡ x → from_cover cover [] ≡ map_driver (column_at d) (shown_driver d x) → step_from d (driver_at ds k) ≡ Ends (Const bit)
      by (Input p) e h = absurd (let f : from_cover cover [] ≡ from_input p = h in cc)
      by (Latch b a) e h = absurd (let f : from_cover cover [] ≡ from_latch b (column_at d a) = h in cc)
      by (Connection a) e h = absurd (let f : from_cover cover [] ≡ from_connection (column_at d a) = h in cc)
      by (OfCover m c ks) e h =
          let f : from_cover cover [] ≡ from_cover (cover_in d m c) (map (column_at d) ks) = h in
          let same : cover_in d m c ≡ cover = cc in
          let none : [] ≡ map (column_at d) ks = cc in
          let empty = none_left ks none in
          ap (step_from d) (e ∙ ap (OfCover m c) empty) ∙ ap (λ (x : Cover). Ends (Const (cover_value x []))) same ∙ ap (λ (b : Bool). Ends (Const b)) value

  record Stepped (k : ℕ) (a : Column) : Type 0 where
    pub j : ℕ
    pub step : step_from d (driver_at ds k) ≡ Passes j
    pub same : a ≡ column_at d j
    pub within : j < length ds

  stepped : (k : ℕ) (a : Column) → k < length ds → IsPassedOn d a (column_at d k) → Stepped k a
  stepped k a less (inl among) = by (driver_at ds k) refl (driver_is k (from_connection a) less among)
    where
      by : (x : ColumnDriver) → driver_at ds k ≡ x → from_connection a ≡ map_driver (column_at d) (shown_driver d x) → Stepped k a
      by (Input p) e h = absurd (let f : from_connection a ≡ from_input p = h in cc)
      by (Latch b i) e h = absurd (let f : from_connection a ≡ from_latch b (column_at d i) = h in cc)
      by (OfCover m c ks) e h = absurd (let f : from_connection a ≡ from_cover (cover_in d m c) (map (column_at d) ks) = h in cc)
      by (Connection j) e h = record {
        j = j;
        step = ap (step_from d) e;
        same = (let f : from_connection a ≡ from_connection (column_at d j) = h in cc);
        within = below k j less (subst (λ (y : ColumnDriver). Among j (read_now (shown_driver d y))) (sym e) (inl refl));
      }
  stepped k a less (inr (cover, passes, among)) = by (driver_at ds k) refl (driver_is k (from_cover cover (a ∷ [])) less among)
    where
      by : (x : ColumnDriver) → driver_at ds k ≡ x → from_cover cover (a ∷ []) ≡ map_driver (column_at d) (shown_driver d x) → Stepped k a
      by (Input p) e h = absurd (let f : from_cover cover (a ∷ []) ≡ from_input p = h in cc)
      by (Latch b i) e h = absurd (let f : from_cover cover (a ∷ []) ≡ from_latch b (column_at d i) = h in cc)
      by (Connection i) e h = absurd (let f : from_cover cover (a ∷ []) ≡ from_connection (column_at d i) = h in cc)
      by (OfCover m c ks) e h =
          let f : from_cover cover (a ∷ []) ≡ from_cover (cover_in d m c) (map (column_at d) ks) = h in
          let same : cover_in d m c ≡ cover = cc in
          let list : a ∷ [] ≡ map (column_at d) ks = cc in
          let one = one_left a ks list in
          let whole : driver_at ds k ≡ OfCover m c (one.0 ∷ []) = e ∙ ap (OfCover m c) one.1 in
          let true_of : passes_on (cover_in d m c) ≡ true = ap passes_on same ∙ passes in
          record {
            j = one.0;
            step = ap (step_from d) whole ∙ ap (λ (v : Bool). cond v (Passes one.0) Stops) true_of;
            same = one.2;
            within = below k one.0 less (subst (λ (y : ColumnDriver). Among one.0 (read_now (shown_driver d y))) (sym whole) (inl refl));
          }

  up : (m k : ℕ) (o : Origin) → k < length ds → LeadsIn d m (column_at d k) o → LeadsWithin d ds marks m k o
  up zero k (Port node place) less h = at_port k node place less h
  up zero k (Const bit) less h = at_constant k bit h.1 less h.0 h.2 h.3
  up (suc m) k o less h =
      let step = stepped k h.1 less h.2 in
      (unmarked k less h.0, step.j, step.step, up m step.j o step.within (subst (λ (c : Column). LeadsIn d m c o) step.same h.3))

  -- so what is found of numbers is said of columns
  pub columns_led : (origins : List (Option Origin)) → AreOrigins d ds marks origins → AreColumnsLed d origins
  columns_led origins found k o within =
      let whole = is.elaborated.whole in
      let l = long d n is in
      let less : k < length ds = omega arith in (
        (λ e. let led = (found k less o).0 e in (led.0, down led.0 k o less led.1)),
        λ led. (found k less o).1 (led.0, up led.0 k o less led.1),
      )
