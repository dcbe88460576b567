-- Numbers that may stand where they are given are in their ranges.
use Rattle.std.proofs.Common.{◌≡◌, ◌≤◌, ◌<◌, ◌&&◌, ◌||◌, not, ◌==◌, ℕ, Bool, true, false, true≢false, List, length, get_or, Option, Some, None, IfSome, unwrap_or, option_and_then, codes, refl, sym, ◌∙◌, ap, arith}
use Rattle.std.specs.Option.{option_map_or}
use Rattle.std.specs.List.{list_all}
use Rattle.std.specs.Prelude.{nat_le}
use Rattle.std.proofs.lemmas.List.Folds.{list_all_at}
use Rattle.std.proofs.lemmas.Bool.Decides.{nat_tests}
use Rattle.clap.specs.Walk.{Row, first_of}
use Rattle.lid_base.specs.Numbers.{number}
use Rattle.lid_top_words.specs.Table.{Form}
use Rattle.lid_top_words.specs.Reading.{option_names}
use Rattle.lid_top_words.specs.Jobs.{fits, is_within, files_in, files_fit, has_each, has_only, has_both, is_tallied, option_fits, has_form, number_if, number_or, AreFewWorkers, IsTraceLong}

between : (least greatest : ℕ) (n : Option ℕ) → option_map_or (λ m. nat_le least m && nat_le m greatest) n false ≡ true → IfSome n (λ m. (least ≤ m) × (m ≤ greatest))
between least greatest None h = tt
between least greatest (Some n) h = (grind (arith, nat_tests, h), grind (arith, nat_tests, h))

-- an option that stands nowhere, or has a number of a range
in_range : (name : List ℕ) (least greatest : ℕ) → ((text : List ℕ) → fits name text ≡ is_within least greatest text)
    → (o : Option (List ℕ)) → option_map_or (fits name) o true ≡ true → IfSome (option_and_then number o) (λ m. (least ≤ m) × (m ≤ greatest))
unfolding is_within
in_range name least greatest range None h = tt
in_range name least greatest range (Some text) h = between least greatest (number text) (sym (range text) ∙ h)

-- and another number in that range stands for one that is not given
other_in_range : (least greatest other : ℕ) (n : Option ℕ) → least ≤ other → other ≤ greatest → IfSome n (λ m. (least ≤ m) × (m ≤ greatest))
    → (least ≤ unwrap_or n other) × (unwrap_or n other ≤ greatest)
other_in_range least greatest other None low high h = (low, high)
other_in_range least greatest other (Some n) low high h = h

at_true : (test : List ℕ → Bool) (names : List (List ℕ)) (i : ℕ) (b : Bool) → i < length names → test (get_or names i (codes "")) ≡ b → list_all test names ≡ true → b ≡ true
at_true test names i true within e h = refl
at_true test names i false within e h = absurd (true≢false (sym h ∙ list_all_at test names i (codes "") within e))

-- of what all holds, the fifth
fifth : (a b c d e f : Bool) → (a && (b && (c && (d && (e && f))))) ≡ true → e ≡ true
fifth true true true true true f h = refl
fifth true true true true false f h = absurd (true≢false (sym h))
fifth true true true false e f h = absurd (true≢false (sym h))
fifth true true false d e f h = absurd (true≢false (sym h))
fifth true false c d e f h = absurd (true≢false (sym h))
fifth false b c d e f h = absurd (true≢false (sym h))

-- where the words have a form, all options may stand where they are given
pub all_fit : (form : Form) (found : List Row) → has_form form found ≡ true → list_all (option_fits found) option_names ≡ true
unfolding has_form
all_fit form found h =
    fifth (length (files_in found) == length form.places) (files_fit (files_in found) form.places) (has_each form.needed found) (has_only form.needed form.further found)
    (list_all (option_fits found) option_names) (not (has_both found) && (form.has_tally || not (is_tallied found))) h

module _ (found : List Row) (all : list_all (option_fits found) option_names ≡ true) where
  -- the number of the option at a place of the table, whose range is this
  module _ (i : ℕ) (name : List ℕ) (least greatest : ℕ) (within : i < length option_names) (is : get_or option_names i (codes "") ≡ name) (range : (text : List ℕ) → fits name text ≡ is_within least greatest text) where
    number_in_range : IfSome (number_if name found) (λ m. (least ≤ m) × (m ≤ greatest))
    unfolding option_fits number_if
    number_in_range =
        in_range name least greatest range (first_of name found)
        (at_true (option_fits found) option_names i (option_fits found name) within (ap (option_fits found) is) all)

    or_in_range : (other : ℕ) → least ≤ other → other ≤ greatest → (least ≤ number_or other name found) × (number_or other name found ≤ greatest)
    unfolding number_or
    or_in_range other low high = other_in_range least greatest other (number_if name found) low high number_in_range

  pub trace_sound : IfSome (number_if (codes "trace") found) IsTraceLong
  unfolding fits
  trace_sound = number_in_range 4 (codes "trace") 1 1048576 (omega arith) refl (λ text. refl)

  pub trace_long : IsTraceLong (number_or 1 (codes "trace") found)
  unfolding fits
  trace_long = or_in_range 4 (codes "trace") 1 1048576 (omega arith) refl (λ text. refl) 1 (omega arith) (omega arith)

  pub workers_few : AreFewWorkers (number_or 1 (codes "workers") found)
  unfolding fits
  workers_few = or_in_range 3 (codes "workers") 1 64 (omega arith) refl (λ text. refl) 1 (omega arith) (omega arith)

  pub rounds_few : number_or 1000 (codes "rounds") found ≤ 1000000
  unfolding fits
  rounds_few = (or_in_range 6 (codes "rounds") 0 1000000 (omega arith) refl (λ text. refl) 1000 (omega arith) (omega arith)).1

  pub reach_positive : 1 ≤ number_or 1 (codes "reach") found
  unfolding fits
  reach_positive = (or_in_range 8 (codes "reach") 1 9223372036854775807 (omega arith) refl (λ text. refl) 1 (omega arith) (omega arith)).0

  pub shells_few : number_or 0 (codes "shells") found ≤ 4294967295
  unfolding fits
  shells_few = (or_in_range 9 (codes "shells") 0 4294967295 (omega arith) refl (λ text. refl) 0 (omega arith) (omega arith)).1

  pub run_sound : IfSome (number_if (codes "run") found) (λ rows. (1 ≤ rows) × (rows ≤ 1000000))
  unfolding fits
  run_sound = number_in_range 10 (codes "run") 1 1000000 (omega arith) refl (λ text. refl)
