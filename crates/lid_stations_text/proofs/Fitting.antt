-- From where lines stand to a placement that fits.
use Rattle.std.proofs.Common.{◌≡◌, ℕ, ◌+◌, ◌<◌, ◌≤◌, true, false, List, [], ◌∷◌, ◌++◌, length, get_or, map, Option, Some, None, Result, Ok, Err, IfOk, IfErr, refl, sym, ap, subst, ◌∙◌, inr, ◌⊎◌, arith, length-append}
use Rattle.std.specs.Prelude.{flat_map, nat_lt, if◌then◌else◌}
use Rattle.std.specs.List.{All}
use Rattle.std.specs.Option.{option_map_or}
use Rattle.std.proofs.lemmas.Bool.{ltb-false}
use Rattle.std.proofs.lemmas.List.{same_lists, get_or_default, get_or-map, length-map}
use Rattle.std.proofs.lemmas.List.Elements.{All-nil, All-cons, All-head, All-tail, All-append, All-from_get_or}
use Rattle.std.proofs.lemmas.List.Sums.{sum_by-cons}
use Rattle.lid_base.specs.declared.line.Line.{Line}
use Rattle.lid_base.specs.Each.{from_each}
use Rattle.lid_system.specs.declared.System.{System}
use Rattle.lid_stations.specs.declared.placement.Placement.{Placement}
use Rattle.lid_stations.specs.Placements.{Links, links_of, station_count, IsCapacity, Fits}
use Rattle.lid_stations_text.specs.declared.form.Form.{Form}
use Rattle.lid_stations_text.specs.declared.fault.PlaceFault.{PlaceFault}
use Rattle.lid_stations_text.specs.declared.fault.PlaceFault.TheVariants.{TotalLimit, Memory}
use Rattle.lid_stations_text.specs.Forms.{relays_of, caps_of}
use Rattle.lid_stations_text.specs.Faults.{place_where, is_of}
use Rattle.lid_stations_text.specs.Places.{AreFirstLines, IsSoundPlace, IsPlacementOf, words_at, relays_at, caps_at}
use Rattle.lid_stations_text.specs.Readings.{lines_fault, relays_on, caps_on, placement_of, whole, rows_reading, unless}
use Rattle.lid_stations_text.proofs.FirstPlaces.{place_in, no_line, line_at}
use Rattle.lid_stations_text.proofs.Amounts.{sound_lines, caps_in_range}
use Rattle.lid_base.proofs.Each.{each_length, each_at}

-- lists made alike of what is made of one list
map_through : {A B C : Type 0} (f : B → C) (v : A → B) (g : A → C) → ((a : A) → f (v a) ≡ g a) → (xs : List A) → map f (map v xs) ≡ map g xs
map_through f v g e [] = refl
map_through {C = C} f v g e (x ∷ xs) = ap (λ (y : C). y ∷ map f (map v xs)) (e x) ∙ ap (λ (ys : List C). g x ∷ ys) (map_through f v g e xs)

flat_map_through : {A B C : Type 0} (f : B → List C) (v : A → B) (g : A → List C) → ((a : A) → f (v a) ≡ g a) → (xs : List A) → flat_map f (map v xs) ≡ flat_map g xs
flat_map_through f v g e [] = refl
flat_map_through {C = C} f v g e (x ∷ xs) = ap (λ (y : List C). y ++ flat_map f (map v xs)) (e x) ∙ ap (λ (ys : List C). g x ++ ys) (flat_map_through f v g e xs)

module _ (l : Links) (form : Form) (lines : List Line) where
  -- what is said at the place of a channel's line is said on its line
  relays_same : (c : ℕ) (place : Option ℕ) → place_where (is_of l c) 0 lines ≡ place → relays_at form lines place ≡ relays_on l form lines c
  relays_same c None e = sym (ap (λ (o : Option Line). option_map_or (λ line. relays_of form line.words) o 0) (no_line (is_of l c) 0 lines e))
  relays_same c (Some i) e = sym (ap (λ (o : Option Line). option_map_or (λ line. relays_of form line.words) o 0) (line_at (is_of l c) 0 lines i i _ e (omega arith)))

  caps_same : (c : ℕ) (place : Option ℕ) → place_where (is_of l c) 0 lines ≡ place → caps_at form lines place ≡ caps_on l form lines c
  caps_same c None e = sym (ap (λ (o : Option Line). option_map_or (λ line. caps_of form line.words) o (2 ∷ [])) (no_line (is_of l c) 0 lines e))
  caps_same c (Some i) e = sym (ap (λ (o : Option Line). option_map_or (λ line. caps_of form line.words) o (2 ∷ [])) (line_at (is_of l c) 0 lines i i _ e (omega arith)))

  placed_are : (places : List (Option ℕ)) → AreFirstLines l lines places → places ≡ map (λ c. place_where (is_of l c) 0 lines) (from_each (λ c. c) 0 (length l.channels))
  placed_are places p = same_lists places (map by numbers) (p.long ∙ sym (length-map numbers by ∙ each_length (λ c. c) 0 (length l.channels))) each
    where
      numbers : List ℕ
      numbers = from_each (λ c. c) 0 (length l.channels)

      by : ℕ → Option ℕ
      by c = place_where (is_of l c) 0 lines

      each : (k : ℕ) (d : Option ℕ) → k < length places → get_or places k d ≡ get_or (map by numbers) k d
      each k d h =
          let inside : k < length l.channels = (let e = p.long in omega arith) in
          let number : get_or numbers k 0 ≡ k = each_at (λ c. c) 0 (length l.channels) k 0 inside ∙ omega arith in
          let read : get_or (map by numbers) k d ≡ by (get_or numbers k 0) = get_or-map by numbers k 0 d (let e = each_length (λ c. c) 0 (length l.channels) in omega arith) in
          get_or_default places k d None h ∙ p.each k inside ∙ ap by (sym number) ∙ sym read

  pub relays_are : (places : List (Option ℕ)) → AreFirstLines l lines places → map (relays_at form lines) places ≡ map (relays_on l form lines) (from_each (λ c. c) 0 (length l.channels))
  relays_are places p = ap (map (relays_at form lines)) (placed_are places p) ∙ map_through (relays_at form lines) _ (relays_on l form lines) (λ c. relays_same c _ refl) _

  pub caps_are : (places : List (Option ℕ)) → AreFirstLines l lines places → flat_map (caps_at form lines) places ≡ flat_map (caps_on l form lines) (from_each (λ c. c) 0 (length l.channels))
  caps_are places p = ap (flat_map (caps_at form lines)) (placed_are places p) ∙ flat_map_through (caps_at form lines) _ (caps_on l form lines) (λ c. caps_same c _ refl) _

  -- each place is one of a sound line
  pub sound_places : (places : List (Option ℕ)) → lines_fault l form [] lines ≡ None → AreFirstLines l lines places → All (IsSoundPlace form lines) places
  sound_places places none p = All-from_get_or (IsSoundPlace form lines) places None each
    where
      at : (c : ℕ) (place : Option ℕ) → place_where (is_of l c) 0 lines ≡ place → IsSoundPlace form lines place
      at c place e = record {
        within = λ i is. (let h = place_in (is_of l c) 0 lines i (e ∙ is) in let w = h.within in omega arith);
        amount = λ i is. (let h = place_in (is_of l c) 0 lines i (e ∙ is) in sound_lines l form [] lines none i _ (let w = h.within in omega arith));
      }

      each : (k : ℕ) → k < length places → IsSoundPlace form lines (get_or places k None)
      each k h = at k _ (sym (p.each k (let e = p.long in omega arith)))

-- what sound lines give
module _ (form : Form) (lines : List Line) where
  long_at : (place : Option ℕ) → IsSoundPlace form lines place → length (caps_at form lines place) ≡ relays_at form lines place + 1
  long_at None s = refl
  long_at (Some i) s = (s.amount i refl).long

  range_at : (place : Option ℕ) → IsSoundPlace form lines place → All IsCapacity (caps_at form lines place)
  range_at None s = All-cons IsCapacity 2 [] (omega arith, omega arith) (All-nil IsCapacity)
  range_at (Some i) s = caps_in_range form (words_at lines i) (s.amount i refl).caps

  pub as_many : (places : List (Option ℕ)) → All (IsSoundPlace form lines) places → length (flat_map (caps_at form lines) places) ≡ station_count (map (relays_at form lines) places)
  as_many [] s = refl
  as_many (place ∷ places) s =
      let here = long_at place (All-head (IsSoundPlace form lines) place places s) in
      let after = as_many places (All-tail (IsSoundPlace form lines) place places s) in
      let step : station_count (map (relays_at form lines) (place ∷ places)) ≡ (relays_at form lines place + 1) + station_count (map (relays_at form lines) places) = sum_by-cons (λ k. k + 1) (relays_at form lines place) (map (relays_at form lines) places) in
      length-append (caps_at form lines place) (flat_map (caps_at form lines) places) ∙ omega arith

  pub in_range : (places : List (Option ℕ)) → All (IsSoundPlace form lines) places → All IsCapacity (flat_map (caps_at form lines) places)
  in_range [] s = All-nil IsCapacity
  in_range (place ∷ places) s =
      All-append IsCapacity (caps_at form lines place) _ (range_at place (All-head (IsSoundPlace form lines) place places s)) (in_range places (All-tail (IsSoundPlace form lines) place places s))

-- what is made is the placement of the lines
pub is_read : (l : Links) (form : Form) (lines : List Line) (places : List (Option ℕ)) (p : Placement) → lines_fault l form [] lines ≡ None → AreFirstLines l lines places → IsPlacementOf form lines places p → rows_reading l form lines ≡ whole p
unfolding placement_of
is_read l form lines places p none placed made =
    let relays = made.relays ∙ relays_are l form lines places placed in
    let caps = made.caps ∙ caps_are l form lines places placed in
    let is : placement_of l form lines ≡ p =
    ap (λ (ks : List ℕ). record { relays = ks; caps = flat_map (caps_on l form lines) (from_each (λ c. c) 0 (length l.channels)) }) (sym relays)
    ∙ ap (λ (cs : List ℕ). record { relays = p.relays; caps = cs }) (sym caps) in
    ap (λ (f : Option PlaceFault). unless f (whole (placement_of l form lines))) none ∙ ap whole is

-- and fits where its stations are not too many
pub fits : (s : System) (form : Form) (lines : List Line) (places : List (Option ℕ)) (p : Placement) → lines_fault (links_of s) form [] lines ≡ None → AreFirstLines (links_of s) lines places → IsPlacementOf form lines places p → station_count p.relays ≤ 65536 → Fits s p
fits s form lines places p none placed made most =
    let sound = sound_places (links_of s) form lines places none placed in
    record {
      rules = record {
        few = made.few;
        most = most;
        caps = ap length made.caps ∙ as_many form lines places sound ∙ sym (ap station_count made.relays);
        range = subst (All IsCapacity) (sym made.caps) (in_range form lines places sound);
      };
      counts = ap length made.relays ∙ length-map places (relays_at form lines) ∙ placed.long;
    }

-- a whole placement, as it is answered
whole_ok : (p q : Placement) → whole p ≡ Ok q → (p ≡ q) × (station_count p.relays ≤ 65536)
whole_ok p q e =
    (elim (nat_lt 65536 (station_count p.relays)) as (λ b. nat_lt 65536 (station_count p.relays) ≡ b → (if b then Err (TotalLimit (station_count p.relays)) else Ok p) ≡ Ok q → (p ≡ q) × (station_count p.relays ≤ 65536)) [
      | true ↦ λ t e. absurd (cc)
      | false ↦ λ t e. (cc, ltb-false 65536 (station_count p.relays) t)
    ]) refl e

pub told_ok : (reading r : Result Placement PlaceFault) → reading ≡ r → IfOk r (λ p. reading ≡ Ok p)
told_ok reading (Ok p) e = e
told_ok reading (Err fault) e = tt

pub told_err : (reading r : Result Placement PlaceFault) → reading ≡ r → IfErr r (λ e. (e ≡ Memory) ⊎ (reading ≡ Err e))
told_err reading (Ok p) e = tt
told_err reading (Err fault) e = inr e

pub told_fits : (s : System) (p : Placement) (r : Result Placement PlaceFault) → r ≡ whole p → (station_count p.relays ≤ 65536 → Fits s p) → IfOk r (Fits s)
told_fits s p (Ok q) e f = let both = whole_ok p q (sym e) in subst (Fits s) both.0 (f both.1)
told_fits s p (Err fault) e f = tt
