-- Numbers that are led back one after another, each after those that it reads.
use Rattle.std.proofs.Common.{◌≡◌, ◌≢◌, ◌⊎◌, ◌↔◌, ◌<◌, ℕ, zero, suc, ◌+◌, Bool, true, false, cond, List, [], ◌∷◌, ◌++◌, length, map, take, set, get_or, Option, Some, None, inl, inr, refl, sym, ◌∙◌, ap, subst, arith}
use Rattle.std.proofs.Math.Seq.{take-suc}
use Rattle.std.proofs.lemmas.List.{get_or-set_same, get_or-set_other, get_or_default, length-set, length-map}
use Rattle.lid_base.specs.Lists.{Among}
use Rattle.std.specs.List.{AllByRecursion}
use Rattle.lid_base.proofs.Lists.{all_among, among_left, among_push, among_at}
use Rattle.lid_cover.specs.declared.Cover.{Cover}
use Rattle.lid_cover.specs.Cover.{cover_value}
use Rattle.lid_design.specs.declared.Design.{Design}
use Rattle.lid_check_digraph.specs.Graphs.{reads_at, IsOrder}
use Rattle.lid_check_elab.specs.declared.driver.ColumnDriver.{ColumnDriver}
use Rattle.lid_check_elab.specs.declared.driver.ColumnDriver.TheVariants.{Input, Latch, Cover as OfCover, Connection}
use Rattle.lid_check_elab.specs.Covers.{no_cover, cover_in}
use Rattle.lid_check_elab.specs.Elaborations.{driver_reads}
use Rattle.lid_check_parts.specs.Parts.{driver_at, HasCover}
use Rattle.lid_net.specs.declared.origin.Origin.{Origin}
use Rattle.lid_net.specs.declared.origin.Origin.TheVariants.{Const, Port}
use Rattle.lid_net.specs.declared.step.BackStep.{BackStep}
use Rattle.lid_net.specs.declared.step.BackStep.TheVariants.{Ends, Passes, Stops}
use Rattle.lid_check_rules.specs.Buffers.{passes_on}
use Rattle.lid_net.specs.Steps.{cover_step, step_from, origin_at, origin_after, known_or, LeadsWithin, IsLedTo, IsOriginOf, AreLedSoFar, AreOrigins}

-- where there is no cover, a column reads nothing and is the constant 1
pub no_cover_step : (d : Design) (model cell : ℕ) (inputs : List ℕ) → no_cover ≡ cover_in d model cell → HasCover d (OfCover model cell inputs) → Ends (Const true) ≡ step_from d (OfCover model cell inputs)
unfolding cover_value
no_cover_step d model cell inputs none has = by inputs (ap (λ (c : Cover). c.inputs) none ∙ has.1)
  where
    by : (ks : List ℕ) → 0 ≡ length ks → Ends (Const true) ≡ cover_step (cover_in d model cell) ks
    by [] e = ap (λ (c : Cover). Ends (Const (cover_value c []))) none
    by (k ∷ ks) e = absurd (omega arith)

-- the origin that a step ends at, or passes on
ends_at : BackStep → BackStep → Type 0
ends_at s t = s ≡ t

module _ (d : Design) (drivers : List ColumnDriver) (marks : List (Option Origin)) where
  -- a number with a mark is led to the mark alone
  marked : (origins : List (Option Origin)) (k : ℕ) (x : Origin) → origin_at marks k ≡ Some x → origin_at origins k ≡ Some x → IsOriginOf d drivers marks origins k
  marked origins k x mark here o = ((λ e. (zero, inl (let f : origin_at origins k ≡ Some o = e in cc))), λ led. from led.0 led.1)
    where
      from : (n : ℕ) → LeadsWithin d drivers marks n k o → origin_at origins k ≡ Some o
      from zero (inl e) = let f : origin_at marks k ≡ Some o = e in cc
      from zero (inr e) = absurd (let f : origin_at marks k ≡ None = e.0 in let g : None ≡ Some x = sym f ∙ mark in cc)
      from (suc n) e = absurd (let f : origin_at marks k ≡ None = e.0 in let g : None ≡ Some x = sym f ∙ mark in cc)

  -- a number without a mark is led by its step
  stepped :
      (origins after : List (Option Origin)) (k : ℕ)
      → origin_at marks k ≡ None
      → origin_at after k ≡ origin_after origins (step_from d (driver_at drivers k))
      → ((a : ℕ) → step_from d (driver_at drivers k) ≡ Passes a → IsOriginOf d drivers marks origins a)
      → IsOriginOf d drivers marks after k
  stepped origins after k none here led o = by (step_from d (driver_at drivers k)) refl
    where
      unmarked : origin_at marks k ≡ Some o → ⊥
      unmarked e = let g : None ≡ Some o = sym none ∙ e in absurd (cc)

      by : (s : BackStep) → step_from d (driver_at drivers k) ≡ s → (origin_at after k ≡ Some o) ↔ IsLedTo d drivers marks k o
      by (Ends x) is = (there, λ l. back l.0 l.1)
        where
          now : origin_at after k ≡ Some x
          now = here ∙ ap (origin_after origins) is

          there : origin_at after k ≡ Some o → IsLedTo d drivers marks k o
          there e = (zero, inr (none, is ∙ ap Ends (let f : Some x ≡ Some o = sym now ∙ e in cc)))

          back : (n : ℕ) → LeadsWithin d drivers marks n k o → origin_at after k ≡ Some o
          back zero (inl e) = absurd (unmarked e)
          back zero (inr e) = now ∙ ap Some (let f : Ends x ≡ Ends o = sym is ∙ e.1 in cc)
          back (suc n) e = absurd (let f : Ends x ≡ Passes e.1 = sym is ∙ e.2 in cc)
      by (Passes a) is = (there, λ l. back l.0 l.1)
        where
          now : origin_at after k ≡ origin_at origins a
          now = here ∙ ap (origin_after origins) is

          there : origin_at after k ≡ Some o → IsLedTo d drivers marks k o
          there e = let l = (led a is o).0 (sym now ∙ e) in (suc l.0, (none, a, is, l.1))

          back : (n : ℕ) → LeadsWithin d drivers marks n k o → origin_at after k ≡ Some o
          back zero (inl e) = absurd (unmarked e)
          back zero (inr e) = absurd (let f : Passes a ≡ Ends o = sym is ∙ e.1 in cc)
          back (suc n) e =
              let alike : e.1 ≡ a = (let f : Passes a ≡ Passes e.1 = sym is ∙ e.2 in cc) in
              now ∙ (led a is o).1 (n, subst (λ (b : ℕ). LeadsWithin d drivers marks n b o) alike e.3)
      by Stops is = (there, λ l. back l.0 l.1)
        where
          now : origin_at after k ≡ None
          now = here ∙ ap (origin_after origins) is

          there : origin_at after k ≡ Some o → IsLedTo d drivers marks k o
          there e = absurd (let f : None ≡ Some o = sym now ∙ e in cc)

          back : (n : ℕ) → LeadsWithin d drivers marks n k o → origin_at after k ≡ Some o
          back zero (inl e) = absurd (unmarked e)
          back zero (inr e) = absurd (let f : Stops ≡ Ends o = sym is ∙ e.1 in cc)
          back (suc n) e = absurd (let f : Stops ≡ Passes e.1 = sym is ∙ e.2 in cc)

  -- what is led by an equal entry is led
  pub carried : (origins after : List (Option Origin)) (k : ℕ) → origin_at after k ≡ origin_at origins k → IsOriginOf d drivers marks origins k → IsOriginOf d drivers marks after k
  carried origins after k e is o = ((λ h. (is o).0 (sym e ∙ h)), λ h. e ∙ (is o).1 h)

-- a step passes on what is read
passed : (d : Design) (driver : ColumnDriver) (a : ℕ) → step_from d driver ≡ Passes a → Among a (driver_reads driver)
passed d (Input place) a e = absurd (let f : Ends (Port 0 place) ≡ Passes a = e in cc)
passed d (Latch first input) a e = absurd (let f : Stops ≡ Passes a = e in cc)
passed d (OfCover model cell []) a e = absurd (let f : Ends _ ≡ Passes a = e in cc)
passed d (OfCover model cell (b ∷ [])) a e = by (passes_on (cover_in d model cell)) e
  where
    by : (v : Bool) → cond v (Passes b) Stops ≡ Passes a → Among a (b ∷ [])
    by true f = inl (let g : Passes b ≡ Passes a = f in cc)
    by false f = absurd (let g : Stops ≡ Passes a = f in cc)
passed d (OfCover model cell (b ∷ c ∷ more)) a e = absurd (let f : Stops ≡ Passes a = e in cc)
passed d (Connection other) a e = inl (let f : Passes other ≡ Passes a = e in cc)

-- what a number reads, by its driver
reads_there : (drivers : List ColumnDriver) (k : ℕ) → k < length drivers → reads_at (map driver_reads drivers) k ≡ driver_reads (driver_at drivers k)
reads_there [] k h = absurd (omega arith)
reads_there (x ∷ xs) zero h = refl
reads_there (x ∷ xs) (suc k) h = reads_there xs k (omega arith)

-- an item of an order is a number
pub item_within : (drivers : List ColumnDriver) (order : List ℕ) (i : ℕ) → IsOrder (map driver_reads drivers) order → i < length order → get_or order i 0 < length drivers
item_within drivers order i ordered less =
    let below = ordered.within (get_or order i 0) (among_at order i 0 less) in
    let mapped = length-map drivers driver_reads in
    omega arith

pub item_there : (drivers : List ColumnDriver) (order : List ℕ) (i n : ℕ) → IsOrder (map driver_reads drivers) order → i < length order → n ≡ length drivers → get_or order i 0 < n
item_there drivers order i n ordered less size = let within = item_within drivers order i ordered less in omega arith

pub covered_at : (d : Design) (drivers : List ColumnDriver) (k : ℕ) (driver : ColumnDriver) → AllByRecursion (HasCover d) drivers → k < length drivers → driver ≡ get_or drivers k driver → HasCover d driver
covered_at d drivers k driver all less is = subst (HasCover d) (sym is) (all_among (HasCover d) drivers (get_or drivers k driver) all (among_at drivers k driver less))

pub driver_there : (drivers : List ColumnDriver) (k : ℕ) (driver : ColumnDriver) → k < length drivers → driver ≡ get_or drivers k driver → driver ≡ driver_at drivers k
driver_there drivers k driver less is = is ∙ get_or_default drivers k driver (Input 0) less

-- the next number of an order is led back
pub led_more :
    (d : Design) (drivers : List ColumnDriver) (order : List ℕ) (i x : ℕ) (marks origins after : List (Option Origin)) (driver : ColumnDriver)
    → AreLedSoFar d drivers order i marks origins
    → IsOrder (map driver_reads drivers) order
    → i < length order
    → x ≡ get_or order i 0
    → driver ≡ driver_at drivers x
    → after ≡ set origins x (known_or (origin_at origins x) (origin_after origins (step_from d driver)))
    → AreLedSoFar d drivers order (i + 1) marks after
led_more d drivers order i x marks origins after driver sofar ordered less item drives is = record { size = size; left = left; led = led }
  where
    more : take (i + 1) order ≡ take i order ++ (x ∷ [])
    more = (let e : i + 1 ≡ suc i = omega arith in ap (λ (n : ℕ). take n order) e) ∙ take-suc order i 0 less ∙ ap (λ (y : ℕ). take i order ++ (y ∷ [])) (sym item)

    within : x < length origins
    within =
        let among = subst (λ (y : ℕ). Among y order) (sym item) (among_at order i 0 less) in
        let below = ordered.within x among in
        let mapped = length-map drivers driver_reads in
        let long = sofar.size in
        omega arith

    new : Among x (take i order) → ⊥
    new among = ordered.once i less (subst (λ (y : ℕ). Among y (take i order)) item among)

    unmarked : origin_at origins x ≡ origin_at marks x
    unmarked = sofar.left x new

    next : Option Origin
    next = known_or (origin_at origins x) (origin_after origins (step_from d driver))

    here : origin_at after x ≡ next
    here = ap (λ (os : List (Option Origin)). origin_at os x) is ∙ get_or-set_same origins x next None within

    there : (k : ℕ) → k ≢ x → origin_at after k ≡ origin_at origins k
    there k other = ap (λ (os : List (Option Origin)). origin_at os k) is ∙ get_or-set_other origins x k next None other

    size : length after ≡ length drivers
    size = ap length is ∙ length-set origins x next ∙ sofar.size

    not_x : (k : ℕ) → (Among k (take (i + 1) order) → ⊥) → k ≢ x
    not_x k none e = none (subst (λ (ks : List ℕ). Among k ks) (sym more) (subst (λ (y : ℕ). Among y (take i order ++ (x ∷ []))) (sym e) (last x (take i order))))
      where
        last : (y : ℕ) (ys : List ℕ) → Among y (ys ++ (y ∷ []))
        last y [] = inl refl
        last y (z ∷ ys) = inr (last y ys)

    left : (k : ℕ) → (Among k (take (i + 1) order) → ⊥) → origin_at after k ≡ origin_at marks k
    left k none = there k (not_x k none) ∙ sofar.left k (λ among. none (subst (λ (ks : List ℕ). Among k ks) (sym more) (among_left k (take i order) (x ∷ []) among)))

    -- what the number passes on was led before
    before : (a : ℕ) → step_from d (driver_at drivers x) ≡ Passes a → IsOriginOf d drivers marks origins a
    before a e =
        let reads = passed d (driver_at drivers x) a e in
        let long = sofar.size in
        let inside = within in
        let there = subst (λ (ks : List ℕ). Among a ks) (sym (reads_there drivers x (omega arith))) reads in
        sofar.led a (ordered.earlier i a less (subst (λ (y : ℕ). Among a (reads_at (map driver_reads drivers) y)) item there))

    latest : IsOriginOf d drivers marks after x
    latest = by (origin_at marks x) refl
      where
        by : (m : Option Origin) → origin_at marks x ≡ m → IsOriginOf d drivers marks after x
        by (Some o) m = marked d drivers marks after x o m (here ∙ ap (λ (k : Option Origin). known_or k (origin_after origins (step_from d driver))) (unmarked ∙ m))
        by None m = stepped d drivers marks origins after x m (here ∙ ap (λ (k : Option Origin). known_or k (origin_after origins (step_from d driver))) (unmarked ∙ m) ∙ ap (λ (s : ColumnDriver). origin_after origins (step_from d s)) drives) before

    led : (k : ℕ) → Among k (take (i + 1) order) → IsOriginOf d drivers marks after k
    led k among = by (among_push k x (take i order) (subst (λ (ks : List ℕ). Among k ks) more among))
      where
        by : Among k (take i order) ⊎ (k ≡ x) → IsOriginOf d drivers marks after k
        by (inl earlier) = carried d drivers marks origins after k (there k (λ e. new (subst (λ (y : ℕ). Among y (take i order)) e earlier))) (sofar.led k earlier)
        by (inr e) = subst (λ (y : ℕ). IsOriginOf d drivers marks after y) (sym e) latest

-- at first nothing is led back
pub led_first : (d : Design) (drivers : List ColumnDriver) (order : List ℕ) (marks : List (Option Origin)) → length marks ≡ length drivers → AreLedSoFar d drivers order 0 marks marks
led_first d drivers order marks size = record { size = size; left = λ k none. refl; led = λ k among. absurd among }

-- in the end all are
pub led_all :
    (d : Design) (drivers : List ColumnDriver) (order : List ℕ) (i : ℕ) (marks origins : List (Option Origin))
    → AreLedSoFar d drivers order i marks origins
    → IsOrder (map driver_reads drivers) order
    → take i order ≡ order
    → AreOrigins d drivers marks origins
led_all d drivers order i marks origins sofar ordered all k less =
    let mapped = length-map drivers driver_reads in
    sofar.led k (subst (λ (ks : List ℕ). Among k ks) (sym all) (ordered.all k (omega arith)))
