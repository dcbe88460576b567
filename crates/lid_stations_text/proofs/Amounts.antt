-- What lines without fault say of their channels.
use Rattle.std.proofs.Common.{◌≡◌, ℕ, zero, suc, ◌+◌, ◌-◌, ◌^◌, ◌<◌, ◌≤◌, Bool, true, false, not, List, [], ◌∷◌, ◌++◌, length, get_or, drop, map, Option, Some, None, refl, ◌∙◌, arith, length-drop}
use Rattle.std.specs.Prelude.{nat_lt, nat_le, is_some}
use Rattle.std.specs.List.{All, list_all}
use Rattle.std.proofs.lemmas.Bool.{and_parts, leb-true, ltb-false, eqb-true}
use Rattle.std.proofs.lemmas.List.{length-map, length-replicate}
use Rattle.std.proofs.lemmas.List.Elements.{All-nil, All-cons, All-replicate}
use Rattle.lid_base.specs.Numbers.{value_below}
use Rattle.lid_base.specs.declared.line.Line.{Line}
use Rattle.lid_stations.specs.Placements.{Links, IsCapacity}
use Rattle.lid_stations_text.specs.declared.form.Form.{Form}
use Rattle.lid_stations_text.specs.declared.form.Form.TheVariants.{Relays, Capacities, Wires}
use Rattle.lid_stations_text.specs.declared.fault.PlaceFault.{PlaceFault}
use Rattle.lid_stations_text.specs.declared.fault.PlaceFault.TheVariants.{NoChannel, Twice}
use Rattle.lid_stations_text.specs.Forms.{has_form, has_length, begins_well, relays_of, caps_of, amount, is_number_word, is_empty_wire, is_capacity_word, has_capacities}
use Rattle.lid_stations_text.specs.Faults.{first_fault, or_else, channel_of, stands_on, channel_fault, amount_fault, line_fault}
use Rattle.lid_stations_text.specs.Readings.{lines_fault}
use Rattle.lid_stations_text.specs.Places.{IsAmountSound}

-- as many capacities as stations
pub caps_are_long : (form : Form) (words : List (List ℕ)) → has_form form words ≡ true → length (caps_of form words) ≡ relays_of form words + 1
caps_are_long Relays words h = length-replicate (relays_of Relays words + 1) 2
caps_are_long Capacities words h =
    let parts = and_parts (begins_well words) _ h in
    let long = and_parts (has_length Capacities words) (list_all is_number_word (drop 4 words)) parts.1 in
    let counts = and_parts (nat_le 5 (length words)) _ long.0 in
    let least : 5 ≤ length words = leb-true _ _ counts.0 in
    let same' : length words - 5 ≡ amount words = eqb-true _ _ counts.1 in
    length-map (drop 4 words) (value_below (2 ^ 64)) ∙ length-drop 4 words ∙ omega arith
caps_are_long (Wires reach) words h = length-replicate (relays_of (Wires reach) words + 1) 2

-- capacities are in their range
named_in_range : (words : List (List ℕ)) → list_all is_capacity_word words ≡ true → All IsCapacity (map (value_below (2 ^ 64)) words)
named_in_range [] h = All-nil IsCapacity
named_in_range (word ∷ words) h =
    let parts = and_parts (is_capacity_word word) _ h in
    let range = and_parts (nat_le 2 (value_below (2 ^ 64) word)) _ parts.0 in
    All-cons IsCapacity _ _ (leb-true _ _ range.0, leb-true _ _ range.1) (named_in_range words parts.1)

two_is_capacity : IsCapacity 2
two_is_capacity = (omega arith, omega arith)

pub caps_in_range : (form : Form) (words : List (List ℕ)) → has_capacities words ≡ true → All IsCapacity (caps_of form words)
caps_in_range Relays words h = All-replicate IsCapacity (relays_of Relays words + 1) 2 two_is_capacity
caps_in_range Capacities words h = named_in_range (drop 4 words) h
caps_in_range (Wires reach) words h = All-replicate IsCapacity (relays_of (Wires reach) words + 1) 2 two_is_capacity

-- one line without fault
or_else_none : (a b : Option PlaceFault) → or_else a b ≡ None → (a ≡ None) × (b ≡ None)
or_else_none None b h = (refl, h)
or_else_none (Some fault) b h = absurd (cc)

first_holds : (b : Bool) (fault : PlaceFault) (after : List (Bool × PlaceFault)) → first_fault ((not b, fault) ∷ after) ≡ None → b ≡ true
first_holds true fault after h = refl
first_holds false fault after h = absurd (cc)

all_three : (a b c : Bool) (f g h : PlaceFault) → first_fault ((a, f) ∷ (b, g) ∷ (not c, h) ∷ []) ≡ None → (b ≡ false) × (c ≡ true)
all_three false false true f g h e = (refl, refl)
all_three false false false f g h e = absurd (cc)
all_three false true c f g h e = absurd (cc)
all_three true b c f g h e = absurd (cc)

pub sound_line : (l : Links) (form : Form) (earlier : List Line) (line : Line) → line_fault l form earlier line ≡ None → IsAmountSound form line.words
sound_line l form earlier line h =
    let parts = or_else_none (channel_fault l form earlier line) (amount_fault form line) h in
    let amounts = all_three (is_empty_wire form line.words) (nat_lt 64 (relays_of form line.words)) (has_capacities line.words) _ _ _ parts.1 in
    record {
      few = ltb-false 64 (relays_of form line.words) amounts.0;
      caps = amounts.1;
      long = caps_are_long form line.words (first_holds (has_form form line.words) _ ((not (is_some (channel_of l line.words)), NoChannel line.number) ∷ (stands_on l earlier (channel_of l line.words), Twice line.number) ∷ []) parts.0);
    }

-- all lines
pub sound_lines : (l : Links) (form : Form) (earlier lines : List Line) → lines_fault l form earlier lines ≡ None → (i : ℕ) (d : Line) → i < length lines → IsAmountSound form (get_or lines i d).words
sound_lines l form earlier [] h i d inside = absurd (omega arith)
sound_lines l form earlier (line ∷ lines) h zero d inside = sound_line l form earlier line (or_else_none (line_fault l form earlier line) _ h).0
sound_lines l form earlier (line ∷ lines) h (suc i) d inside = sound_lines l form (earlier ++ line ∷ []) lines (or_else_none (line_fault l form earlier line) _ h).1 i d (omega arith)
