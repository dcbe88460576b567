-- What is at fault in a line, and in lines one after the other.
use Rattle.std.proofs.Common.{◌≡◌, ℕ, ◌+◌, ◌<◌, Bool, true, false, not, List, [], ◌∷◌, ◌++◌, length, get_or, take, drop, set, Option, Some, None, refl, sym, ap, subst, ◌∙◌, inl, inr, length-set, arith}
use Rattle.std.specs.Prelude.{is_some}
use Rattle.std.proofs.lemmas.Bool.{cases_eq, eq-eqb, ne_eqb}
use Rattle.std.proofs.lemmas.List.{take_more, drop_more, get_or-set_same, get_or-set_other, length-take-le}
use Rattle.lid_base.specs.declared.line.Line.{Line}
use Rattle.lid_stations.specs.Placements.{Links}
use Rattle.lid_stations_text.specs.declared.form.Form.{Form}
use Rattle.lid_stations_text.specs.declared.fault.PlaceFault.{PlaceFault}
use Rattle.lid_stations_text.specs.declared.fault.PlaceFault.TheVariants.{Twice}
use Rattle.lid_stations_text.specs.Forms.{has_form}
use Rattle.lid_stations_text.specs.Faults.{first_fault, or_else, channel_of, is_number, is_of, stands_on, place_where, amount_fault, line_fault}
use Rattle.lid_stations_text.specs.Readings.{lines_fault}
use Rattle.lid_stations_text.specs.Places.{AreFirstLines}
use Rattle.lid_stations_text.proofs.FirstPlaces.{place_in, any_from_place, more_failed, more_passed}

third_of_three : (a b c : Bool) (f g h : PlaceFault) → a ≡ true → b ≡ true → c ≡ true → first_fault ((not a, f) ∷ (not b, g) ∷ (c, h) ∷ []) ≡ Some h
third_of_three a b c f g h ea eb ec = rw (ea, eb, ec)

none_of_three : (a b c : Bool) (f g h : PlaceFault) → a ≡ true → b ≡ true → c ≡ false → first_fault ((not a, f) ∷ (not b, g) ∷ (c, h) ∷ []) ≡ None
none_of_three a b c f g h ea eb ec = rw (ea, eb, ec)

-- a line whose channel stands on an earlier line
stands : (l : Links) (earlier : List Line) (words : List (List ℕ)) (c : ℕ) (b : Bool) → channel_of l words ≡ Some c → is_some (place_where (is_of l c) 0 earlier) ≡ b → stands_on l earlier (channel_of l words) ≡ b
stands l earlier words c b is at = ap (stands_on l earlier) is ∙ sym (any_from_place (is_of l c) 0 earlier) ∙ at

pub told_twice : (l : Links) (form : Form) (earlier : List Line) (line : Line) (c : ℕ) → has_form form line.words ≡ true → channel_of l line.words ≡ Some c → is_some (place_where (is_of l c) 0 earlier) ≡ true → line_fault l form earlier line ≡ Some (Twice line.number)
told_twice l form earlier line c well is at =
    ap (λ (f : Option PlaceFault). or_else f (amount_fault form line)) (third_of_three _ _ _ _ _ _ well (ap is_some is) (stands l earlier line.words c true is at))

pub told_by_amount : (l : Links) (form : Form) (earlier : List Line) (line : Line) (c : ℕ) → has_form form line.words ≡ true → channel_of l line.words ≡ Some c → is_some (place_where (is_of l c) 0 earlier) ≡ false → line_fault l form earlier line ≡ amount_fault form line
told_by_amount l form earlier line c well is at =
    ap (λ (f : Option PlaceFault). or_else f (amount_fault form line)) (none_of_three _ _ _ _ _ _ well (ap is_some is) (stands l earlier line.words c false is at))

-- the channel of a line is one of the system
pub is_channel : (l : Links) (words : List (List ℕ)) (c : ℕ) → channel_of l words ≡ Some c → c < length l.channels
is_channel l words c e = let p = place_in _ 0 l.channels c e in (let h = p.within in omega arith)

-- one more line, of a channel that was on none
pub placed_more : (l : Links) (earlier : List Line) (places : List (Option ℕ)) (line : Line) (c : ℕ) → AreFirstLines l earlier places → channel_of l line.words ≡ Some c → get_or places c None ≡ None → AreFirstLines l (earlier ++ line ∷ []) (set places c (Some (length earlier)))
placed_more l earlier places line c p is free = record { long = length-set places c (Some (length earlier)) ∙ p.long; each = each }
  where
    inside : c < length l.channels
    inside = is_channel l line.words c is

    each : (k : ℕ) → k < length l.channels → get_or (set places c (Some (length earlier))) k None ≡ place_where (is_of l k) 0 (earlier ++ line ∷ [])
    each k h =
        elim (cases_eq k c) [
          | inl same' ↦
              let named : is_of l c line ≡ true = ap (λ (o : Option ℕ). is_number o c) is ∙ eq-eqb c c refl in
              let none : place_where (is_of l c) 0 earlier ≡ None = sym (p.each c inside) ∙ free in
              let put : get_or (set places c (Some (length earlier))) c None ≡ Some (length earlier) = get_or-set_same places c (Some (length earlier)) None (let long = p.long in let here : c < length l.channels = inside in omega arith) in
              let last : place_where (is_of l c) 0 (earlier ++ line ∷ []) ≡ Some (length earlier) = more_passed (is_of l c) 0 earlier line none named ∙ (let z : 0 + length earlier ≡ length earlier = omega arith in ap Some z) in
              subst (λ (j : ℕ). get_or (set places c (Some (length earlier))) j None ≡ place_where (is_of l j) 0 (earlier ++ line ∷ [])) (sym same') (put ∙ sym last)
          | inr other ↦
              let unnamed : is_of l k line ≡ false = ap (λ (o : Option ℕ). is_number o k) is ∙ ne_eqb c k (λ e. other (sym e)) in
              get_or-set_other places c k (Some (length earlier)) None other ∙ p.each k h ∙ sym (more_failed (is_of l k) 0 earlier line unnamed)
        ]

pub placed_next : (l : Links) (lines : List Line) (i : ℕ) (line : Line) (places : List (Option ℕ)) (c : ℕ) → i < length lines → line ≡ get_or lines i line → AreFirstLines l (take i lines) places → channel_of l line.words ≡ Some c → get_or places c None ≡ None → AreFirstLines l (take (i + 1) lines) (set places c (Some i))
placed_next l lines i line places c h at p is free =
    let grown : take i lines ++ line ∷ [] ≡ take (i + 1) lines = ap (λ (x : Line). take i lines ++ x ∷ []) at ∙ sym (take_more lines i line h) in
    let number : length (take i lines) ≡ i = length-take-le i lines (omega arith) in
    subst (λ (n : ℕ). AreFirstLines l (take (i + 1) lines) (set places c (Some n))) number
    (subst (λ (before : List Line). AreFirstLines l before (set places c (Some (length (take i lines))))) grown (placed_more l (take i lines) places line c p is free))

-- the fault of the lines from one on
pub from_line : (l : Links) (form : Form) (lines : List Line) (i : ℕ) (line : Line) → i < length lines → line ≡ get_or lines i line → lines_fault l form (take i lines) (drop i lines) ≡ or_else (line_fault l form (take i lines) line) (lines_fault l form (take (i + 1) lines) (drop (i + 1) lines))
from_line l form lines i line h is =
    let cut : drop i lines ≡ line ∷ drop (i + 1) lines = drop_more lines i line h ∙ ap (λ (x : Line). x ∷ drop (i + 1) lines) (sym is) in
    let grown : take (i + 1) lines ≡ take i lines ++ line ∷ [] = take_more lines i line h ∙ ap (λ (x : Line). take i lines ++ x ∷ []) (sym is) in
    ap (lines_fault l form (take i lines)) cut
    ∙ ap (λ (before : List Line). or_else (line_fault l form (take i lines) line) (lines_fault l form before (drop (i + 1) lines))) (sym grown)

pub after_line : (l : Links) (form : Form) (lines : List Line) (i : ℕ) (line : Line) → i < length lines → line ≡ get_or lines i line → line_fault l form (take i lines) line ≡ None → lines_fault l form (take (i + 1) lines) (drop (i + 1) lines) ≡ lines_fault l form (take i lines) (drop i lines)
after_line l form lines i line h is none =
    sym (from_line l form lines i line h is ∙ ap (λ (f : Option PlaceFault). or_else f (lines_fault l form (take (i + 1) lines) (drop (i + 1) lines))) none)

pub at_line : (l : Links) (form : Form) (lines : List Line) (i : ℕ) (line : Line) (fault : PlaceFault) → i < length lines → line ≡ get_or lines i line → line_fault l form (take i lines) line ≡ Some fault → lines_fault l form (take i lines) (drop i lines) ≡ Some fault
at_line l form lines i line fault h is told =
    from_line l form lines i line h is ∙ ap (λ (f : Option PlaceFault). or_else f (lines_fault l form (take (i + 1) lines) (drop (i + 1) lines))) told
