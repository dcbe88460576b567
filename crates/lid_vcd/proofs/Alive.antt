-- Texts none of whose words is refused begin a dump of the form.
use Rattle.std.proofs.Common.{◌≡◌, ℕ, ◌+◌, ◌-◌, ◌/◌, ◌%◌, ◌<◌, ◌≤◌, ◌==◌, ◌&&◌, ◌||◌, Bool, true, false, cond, List, [], ◌∷◌, ◌++◌, map, refl, sym, ap, ◌∙◌, subst, inl, inr, arith}
use Rattle.std.specs.Prelude.{Option, Some, None, Ok, Err, option_and_then, nat_lt, codes, bytes_eq}
use Rattle.std.specs.Fmt.{decimal}
use Rattle.std.specs.List.{AllByRecursion}
use Rattle.std.proofs.lemmas.Bool.{and_parts, ltb-true, eqb-true, eq-eqb, cases_lt, cond-false}
use Rattle.lid_base.specs.Numbers.{number_below}
use Rattle.lid_base_lines.specs.Texts.{Words}
use Rattle.lid_texts_runs.specs.declared.trace.Trace.{Trace}
use Rattle.lid_vcd_form.specs.declared.form.Section.{Section}
use Rattle.lid_vcd_form.specs.declared.form.Section.TheVariants.{Timescale, Scope, Variable, Upscope, Definitions, Body}
use Rattle.lid_vcd_form.specs.declared.form.Next.{Next}
use Rattle.lid_vcd_form.specs.declared.form.Next.TheVariants.{Before, Note, Inside, Time, Set, Bits}
use Rattle.lid_vcd_form.specs.declared.form.Place.{Place}
use Rattle.lid_vcd_form.specs.Ids.{variable_of, token_in_bits, id_of, width_of, ending_of}
use Rattle.lid_vcd_form.specs.Form.{new_place, start, step, read_words, is_time, is_end, is_note, is_name, only, begins_variable, begins, before_section, in_note, in_timescale, in_scope, in_variable, in_section, going_on, later, bit_set, token_read, token_set, change, in_body}
use Rattle.lid_vcd_form.specs.Words.{placed_words}
use Rattle.lid_vcd_form.specs.Shows.{Wave, trace_at, trace_of, wave_of}
use Rattle.lid_vcd.specs.Laws.{place_after}
use Rattle.lid_vcd.proofs.Going.{run_goes, goes_on}
use Rattle.lid_vcd.proofs.WrittenWords.{IsWord, on_line, spaced, spaced_read, line_after, both_read}
use Rattle.lid_vcd.proofs.WordsSound.{id_word, width_word, name_word, var_word, wire_word, end_word, timescale_word, scope_word, module_word, lid_word, upscope_word, definitions_word, first_time_word, time_word}
use Rattle.lid_vcd.proofs.HeadRead.{only_true, same_word, name_is, word_0, word_1, word_2, word_3, word_4, word_5, closing_0, closing_2}
use Rattle.lid_vcd.proofs.WavesRead.{first_time}
use Rattle.lid_vcd.proofs.BodyRead.{time_told, token_told}
use Rattle.lid_vcd.proofs.Sound.{some_gives, only_gives, cond_gives, none_gives}

-- after the declarations all stations are whole
abbrev SectionIsAlive : ℕ → Section → Type 0
SectionIsAlive n Upscope = n % 3 ≡ 0
SectionIsAlive n Definitions = n % 3 ≡ 0
SectionIsAlive n Body = n % 3 ≡ 0
SectionIsAlive n _ = Unit {0}

abbrev InsideIsAlive : ℕ → Section → Type 0
InsideIsAlive n Body = ⊥
InsideIsAlive n section = SectionIsAlive n section

-- in the body a time is left after a change, and there is a token where bits were read
abbrev NextIsAlive : ℕ → Next → Type 0
NextIsAlive n (Before section) = SectionIsAlive n section
NextIsAlive n (Note section) = SectionIsAlive n section
NextIsAlive n (Inside section i) = InsideIsAlive n section
NextIsAlive n (Time at) = n % 3 ≡ 0
NextIsAlive n (Set at m value) = (n % 3 ≡ 0) × (at < 4294967295)
NextIsAlive n (Bits at value) = (n % 3 ≡ 0) × (at < 4294967295) × (0 < n)

record IsAlive (p : Place) : Type 0 where
  few : p.variables ≤ 196608
  next : NextIsAlive p.variables p.next

-- some words of a text lead to an end, on whatever line they stand
record CanEnd (p : Place) : Type 0 where
  more : Words
  end : Place
  words : AllByRecursion IsWord more
  leads : (line : ℕ) → place_after p (map (on_line line) more) ≡ Some end
  time : is_time end.next ≡ true

by_word : (p r : Place) (word : List ℕ) → IsWord word → step p word ≡ Some r → CanEnd r → CanEnd p
by_word p r word so e rest = record {
  more = word ∷ rest.more;
  end = rest.end;
  words = (so, rest.words);
  leads = λ line. ap (λ (o : Option Place). option_and_then (λ q. place_after q (map (on_line line) rest.more)) o) e ∙ rest.leads line;
  time = rest.time;
}

at_time_ends : (n at : ℕ) → CanEnd (new_place n (Time at))
at_time_ends n at = record { more = []; end = new_place n (Time at); words = tt; leads = λ line. refl; time = refl }

body_ends : (n : ℕ) → CanEnd (new_place n (Before Body))
body_ends n = by_word (new_place n (Before Body)) (new_place n (Time 0)) (codes "#0") first_time_word (first_time n) (at_time_ends n 0)

in_definitions_ends : (n i : ℕ) → CanEnd (new_place n (Inside Definitions i))
unfolding step
in_definitions_ends n i = by_word (new_place n (Inside Definitions i)) (new_place n (Before Body)) (codes "$end") end_word refl (body_ends n)

definitions_ends : (n : ℕ) → CanEnd (new_place n (Before Definitions))
definitions_ends n = by_word (new_place n (Before Definitions)) (new_place n (Inside Definitions 1)) (codes "$enddefinitions") definitions_word (closing_2 n) (in_definitions_ends n 1)

in_upscope_ends : (n i : ℕ) → CanEnd (new_place n (Inside Upscope i))
unfolding step
in_upscope_ends n i = by_word (new_place n (Inside Upscope i)) (new_place n (Before Definitions)) (codes "$end") end_word refl (definitions_ends n)

upscope_ends : (n : ℕ) → CanEnd (new_place n (Before Upscope))
unfolding step begins
upscope_ends n = by_word (new_place n (Before Upscope)) (new_place n (Inside Upscope 1)) (codes "$upscope") upscope_word refl (in_upscope_ends n 1)

whole_ends : (n : ℕ) → n % 3 ≡ 0 → CanEnd (new_place n (Before Variable))
whole_ends n whole = by_word (new_place n (Before Variable)) (new_place n (Inside Upscope 1)) (codes "$upscope") upscope_word (closing_0 n (eq-eqb (n % 3) 0 whole)) (in_upscope_ends n 1)

-- one more declaration
declare : (n : ℕ) → n < 196608 → CanEnd (new_place (n + 1) (Before Variable)) → CanEnd (new_place n (Before Variable))
declare n small rest =
    by_word (new_place n (Before Variable)) (new_place (n + 1) (Inside Variable 1)) (codes "$var") var_word (word_0 n small)
    (by_word (new_place (n + 1) (Inside Variable 1)) (new_place (n + 1) (Inside Variable 2)) (codes "wire") wire_word (word_1 (n + 1))
    (by_word (new_place (n + 1) (Inside Variable 2)) (new_place (n + 1) (Inside Variable 3)) (width_of n) (width_word n) (word_2 n)
    (by_word (new_place (n + 1) (Inside Variable 3)) (new_place (n + 1) (Inside Variable 4)) (id_of n) (id_word n) (word_3 n)
    (by_word (new_place (n + 1) (Inside Variable 4)) (new_place (n + 1) (Inside Variable 5)) (codes "s" ++ decimal (n / 3) ++ ending_of n) (name_word n (omega arith)) (word_4 n small)
    (by_word (new_place (n + 1) (Inside Variable 5)) (new_place (n + 1) (Before Variable)) (codes "$end") end_word (word_5 (n + 1)) rest)))))

variable_ends : (n : ℕ) → n ≤ 196608 → CanEnd (new_place n (Before Variable))
variable_ends n few =
    elim (cases_lt (n % 3) 1) [
      | inl none ↦ whole_ends n (omega arith)
      | inr some ↦ elim (cases_lt (n % 3) 2) [
        | inl one ↦ declare n (omega arith) (declare (n + 1) (omega arith) (whole_ends (n + 1 + 1) (omega arith)))
        | inr two ↦ declare n (omega arith) (whole_ends (n + 1) (omega arith))
      ]
    ]

-- within a declaration
in_variable_ends : (n i : ℕ) → n ≤ 196608 → CanEnd (new_place n (Inside Variable i))
unfolding step in_variable
in_variable_ends n i few = by (i == 1) refl (i == 2) refl (i == 3) refl (i == 4) refl
  where
    last : (j : ℕ) → (j == 1) ≡ false → (j == 2) ≡ false → (j == 3) ≡ false → (j == 4) ≡ false → CanEnd (new_place n (Inside Variable j))
    last j a b c d = by_word (new_place n (Inside Variable j)) (new_place n (Before Variable)) (codes "$end") end_word (cond-false (j == 1) _ _ a ∙ cond-false (j == 2) _ _ b ∙ cond-false (j == 3) _ _ c ∙ cond-false (j == 4) _ _ d) (variable_ends n few)

    fourth : CanEnd (new_place n (Inside Variable 4))
    fourth = by_word (new_place n (Inside Variable 4)) (new_place n (Inside Variable 5)) (codes "s" ++ decimal ((n - 1) / 3) ++ ending_of (n - 1)) (name_word (n - 1) (omega arith)) (only_true (is_name (n - 1) (codes "s" ++ decimal ((n - 1) / 3) ++ ending_of (n - 1))) n (Inside Variable 5) (name_is (n - 1) (omega arith))) (last 5 refl refl refl refl)

    third : CanEnd (new_place n (Inside Variable 3))
    third = by_word (new_place n (Inside Variable 3)) (new_place n (Inside Variable 4)) (id_of (n - 1)) (id_word (n - 1)) (only_true (bytes_eq (id_of (n - 1)) (id_of (n - 1))) n (Inside Variable 4) (same_word (id_of (n - 1)))) fourth

    second : CanEnd (new_place n (Inside Variable 2))
    second = by_word (new_place n (Inside Variable 2)) (new_place n (Inside Variable 3)) (width_of (n - 1)) (width_word (n - 1)) (only_true (bytes_eq (width_of (n - 1)) (width_of (n - 1))) n (Inside Variable 3) (same_word (width_of (n - 1)))) third

    first : CanEnd (new_place n (Inside Variable 1))
    first = by_word (new_place n (Inside Variable 1)) (new_place n (Inside Variable 2)) (codes "wire") wire_word refl second

    at : (k : ℕ) → (i == k) ≡ true → CanEnd (new_place n (Inside Variable k)) → CanEnd (new_place n (Inside Variable i))
    at k e so = subst (λ (j : ℕ). CanEnd (new_place n (Inside Variable j))) (sym (eqb-true i k e)) so

    by : (a : Bool) → (i == 1) ≡ a → (b : Bool) → (i == 2) ≡ b → (c : Bool) → (i == 3) ≡ c → (d : Bool) → (i == 4) ≡ d → CanEnd (new_place n (Inside Variable i))
    by true e b f c g d h = at 1 e first
    by false e true f c g d h = at 2 f second
    by false e false f true g d h = at 3 g third
    by false e false f false g true h = at 4 h fourth
    by false e false f false g false h = last i e f g h

scope_word_ends : (n i : ℕ) → n ≤ 196608 → CanEnd (new_place n (Inside Scope i))
unfolding step in_scope
scope_word_ends n i few = by (i == 1) refl (i == 2) refl
  where
    last : (j : ℕ) → (j == 1) ≡ false → (j == 2) ≡ false → CanEnd (new_place n (Inside Scope j))
    last j a b = by_word (new_place n (Inside Scope j)) (new_place n (Before Variable)) (codes "$end") end_word (cond-false (j == 1) _ _ a ∙ cond-false (j == 2) _ _ b) (variable_ends n few)

    second : CanEnd (new_place n (Inside Scope 2))
    second = by_word (new_place n (Inside Scope 2)) (new_place n (Inside Scope 3)) (codes "lid") lid_word refl (last 3 refl refl)

    first : CanEnd (new_place n (Inside Scope 1))
    first = by_word (new_place n (Inside Scope 1)) (new_place n (Inside Scope 2)) (codes "module") module_word refl second

    at : (k : ℕ) → (i == k) ≡ true → CanEnd (new_place n (Inside Scope k)) → CanEnd (new_place n (Inside Scope i))
    at k e so = subst (λ (j : ℕ). CanEnd (new_place n (Inside Scope j))) (sym (eqb-true i k e)) so

    by : (a : Bool) → (i == 1) ≡ a → (b : Bool) → (i == 2) ≡ b → CanEnd (new_place n (Inside Scope i))
    by true e b f = at 1 e first
    by false e true f = at 2 f second
    by false e false f = last i e f

scope_ends : (n : ℕ) → n ≤ 196608 → CanEnd (new_place n (Before Scope))
unfolding step begins
scope_ends n few = by_word (new_place n (Before Scope)) (new_place n (Inside Scope 1)) (codes "$scope") scope_word refl (scope_word_ends n 1 few)

in_timescale_ends : (n i : ℕ) → n ≤ 196608 → CanEnd (new_place n (Inside Timescale i))
unfolding step
in_timescale_ends n i few = by_word (new_place n (Inside Timescale i)) (new_place n (Before Scope)) (codes "$end") end_word refl (scope_ends n few)

timescale_ends : (n : ℕ) → n ≤ 196608 → CanEnd (new_place n (Before Timescale))
unfolding step begins
timescale_ends n few = by_word (new_place n (Before Timescale)) (new_place n (Inside Timescale 1)) (codes "$timescale") timescale_word refl (in_timescale_ends n 1 few)

before_ends : (n : ℕ) (section : Section) → n ≤ 196608 → CanEnd (new_place n (Before section))
before_ends n Timescale few = timescale_ends n few
before_ends n Scope few = scope_ends n few
before_ends n Variable few = variable_ends n few
before_ends n Upscope few = upscope_ends n
before_ends n Definitions few = definitions_ends n
before_ends n Body few = body_ends n

note_ends : (n : ℕ) (section : Section) → n ≤ 196608 → CanEnd (new_place n (Note section))
unfolding step
note_ends n section few = by_word (new_place n (Note section)) (new_place n (Before section)) (codes "$end") end_word refl (before_ends n section few)

inside_ends : (n : ℕ) (section : Section) (i : ℕ) → n ≤ 196608 → InsideIsAlive n section → CanEnd (new_place n (Inside section i))
inside_ends n Timescale i few alive = in_timescale_ends n i few
inside_ends n Scope i few alive = scope_word_ends n i few
inside_ends n Variable i few alive = in_variable_ends n i few
inside_ends n Upscope i few alive = in_upscope_ends n i
inside_ends n Definitions i few alive = in_definitions_ends n i
inside_ends n Body i few alive = absurd alive

set_ends : (n at m value : ℕ) → at < 4294967295 → CanEnd (new_place n (Set at m value))
unfolding step
set_ends n at m value early = by_word (new_place n (Set at m value)) (new_place n (Time (at + 1))) (35 ∷ decimal (at + 1)) (time_word (at + 1) (omega arith)) (time_told n at (at + 1) (omega arith) (omega arith)) (at_time_ends n (at + 1))

bits_ends : (n at value : ℕ) → n % 3 ≡ 0 → 0 < n → at < 4294967295 → CanEnd (new_place n (Bits at value))
bits_ends n at value whole some early = by_word (new_place n (Bits at value)) (new_place n (Set at 2 value)) (id_of 2) (id_word 2) (token_told n at 2 value (omega arith) (omega arith) refl) (set_ends n at 2 value early)

alive_ends : (p : Place) → IsAlive p → CanEnd p
alive_ends p so = by p.next so.next
  where
    by : (next : Next) → NextIsAlive p.variables next → CanEnd (new_place p.variables next)
    by (Before section) alive = before_ends p.variables section so.few
    by (Note section) alive = note_ends p.variables section so.few
    by (Inside section i) alive = inside_ends p.variables section i so.few alive
    by (Time at) alive = at_time_ends p.variables at
    by (Set at m value) alive = set_ends p.variables at m value alive.1
    by (Bits at value) alive = bits_ends p.variables at value alive.0 alive.2 alive.1

-- a word that is not refused keeps a place alive
alive : (n : ℕ) (next : Next) → n ≤ 196608 → NextIsAlive n next → IsAlive (new_place n next)
alive n next few so = record { few = few; next = so }

begins_variable_alive : (n : ℕ) (word : List ℕ) → n ≤ 196608 → (q : Place) → begins_variable n word ≡ Some q → IsAlive q
unfolding begins_variable
begins_variable_alive n word few =
    cond_gives IsAlive (bytes_eq word (codes "$var")) (only (nat_lt n 196608) (n + 1) (Inside Variable 1)) (only (bytes_eq word (codes "$upscope") && (n % 3 == 0)) n (Inside Upscope 1))
    (λ _. only_gives IsAlive (nat_lt n 196608) (n + 1) (Inside Variable 1) (λ h. alive (n + 1) (Inside Variable 1) (let lt = ltb-true n 196608 h in omega arith) tt))
    (only_gives IsAlive (bytes_eq word (codes "$upscope") && (n % 3 == 0)) n (Inside Upscope 1) (λ h. alive n (Inside Upscope 1) few (eqb-true (n % 3) 0 (and_parts (bytes_eq word (codes "$upscope")) (n % 3 == 0) h).1)))

begins_alive : (n : ℕ) (section : Section) (word : List ℕ) → n ≤ 196608 → SectionIsAlive n section → (q : Place) → begins n section word ≡ Some q → IsAlive q
unfolding begins
begins_alive n Timescale word few so = only_gives IsAlive (bytes_eq word (codes "$timescale")) n (Inside Timescale 1) (λ _. alive n (Inside Timescale 1) few tt)
begins_alive n Scope word few so = only_gives IsAlive (bytes_eq word (codes "$scope")) n (Inside Scope 1) (λ _. alive n (Inside Scope 1) few tt)
begins_alive n Variable word few so = begins_variable_alive n word few
begins_alive n Upscope word few so = only_gives IsAlive (bytes_eq word (codes "$upscope")) n (Inside Upscope 1) (λ _. alive n (Inside Upscope 1) few so)
begins_alive n Definitions word few so = only_gives IsAlive (bytes_eq word (codes "$enddefinitions")) n (Inside Definitions 1) (λ _. alive n (Inside Definitions 1) few so)
begins_alive n Body word few so = only_gives IsAlive (bytes_eq word (codes "#0")) n (Time 0) (λ _. alive n (Time 0) few so)

before_alive : (n : ℕ) (section : Section) (word : List ℕ) → n ≤ 196608 → SectionIsAlive n section → (q : Place) → before_section n section word ≡ Some q → IsAlive q
before_alive n section word few so =
    cond_gives IsAlive (is_note word) (Some (new_place n (Note section))) (begins n section word) (λ _ q e. some_gives IsAlive (new_place n (Note section)) q (alive n (Note section) few so) e) (begins_alive n section word few so)

note_alive : (n : ℕ) (section : Section) (word : List ℕ) → n ≤ 196608 → SectionIsAlive n section → (q : Place) → in_note n section word ≡ Some q → IsAlive q
note_alive n section word few so q e = some_gives IsAlive (new_place n (cond (is_end word) (Before section) (Note section))) q (by (is_end word)) e
  where
    by : (b : Bool) → IsAlive (new_place n (cond b (Before section) (Note section)))
    by true = alive n (Before section) few so
    by false = alive n (Note section) few so

timescale_alive : (n : ℕ) (word : List ℕ) → n ≤ 196608 → (q : Place) → in_timescale n word ≡ Some q → IsAlive q
timescale_alive n word few q e = some_gives IsAlive (new_place n (cond (is_end word) (Before Scope) (Inside Timescale 1))) q (by (is_end word)) e
  where
    by : (b : Bool) → IsAlive (new_place n (cond b (Before Scope) (Inside Timescale 1)))
    by true = alive n (Before Scope) few tt
    by false = alive n (Inside Timescale 1) few tt

scope_alive : (n i : ℕ) (word : List ℕ) → n ≤ 196608 → (q : Place) → in_scope n i word ≡ Some q → IsAlive q
unfolding in_scope
scope_alive n i word few =
    cond_gives IsAlive (i == 1) _ _ (λ _. only_gives IsAlive (bytes_eq word (codes "module")) n (Inside Scope 2) (λ _. alive n (Inside Scope 2) few tt))
    (cond_gives IsAlive (i == 2) _ _ (λ _. only_gives IsAlive (bytes_eq word (codes "lid")) n (Inside Scope 3) (λ _. alive n (Inside Scope 3) few tt))
    (only_gives IsAlive (is_end word) n (Before Variable) (λ _. alive n (Before Variable) few tt)))

variable_alive : (n i : ℕ) (word : List ℕ) → n ≤ 196608 → (q : Place) → in_variable n i word ≡ Some q → IsAlive q
unfolding in_variable
variable_alive n i word few =
    cond_gives IsAlive (i == 1) _ _ (λ _. only_gives IsAlive _ n (Inside Variable 2) (λ _. alive n (Inside Variable 2) few tt))
    (cond_gives IsAlive (i == 2) _ _ (λ _. only_gives IsAlive _ n (Inside Variable 3) (λ _. alive n (Inside Variable 3) few tt))
    (cond_gives IsAlive (i == 3) _ _ (λ _. only_gives IsAlive _ n (Inside Variable 4) (λ _. alive n (Inside Variable 4) few tt))
    (cond_gives IsAlive (i == 4) _ _ (λ _. only_gives IsAlive _ n (Inside Variable 5) (λ _. alive n (Inside Variable 5) few tt))
    (only_gives IsAlive (is_end word) n (Before Variable) (λ _. alive n (Before Variable) few tt)))))

section_alive : (n : ℕ) (section : Section) (i : ℕ) (word : List ℕ) → n ≤ 196608 → InsideIsAlive n section → (q : Place) → in_section n section i word ≡ Some q → IsAlive q
section_alive n Timescale i word few so = timescale_alive n word few
section_alive n Scope i word few so = scope_alive n i word few
section_alive n Variable i word few so = variable_alive n i word few
section_alive n Upscope i word few so = only_gives IsAlive (is_end word) n (Before Definitions) (λ _. alive n (Before Definitions) few so)
section_alive n Definitions i word few so = only_gives IsAlive (is_end word) n (Before Body) (λ _. alive n (Before Body) few so)
section_alive n Body i word few so = absurd so

later_alive : (n at : ℕ) (o : Option ℕ) → n ≤ 196608 → n % 3 ≡ 0 → (q : Place) → later n at o ≡ Some q → IsAlive q
later_alive n at None few so = λ q e. none_gives q e
later_alive n at (Some time) few so = only_gives IsAlive (nat_lt at time) n (Time time) (λ _. alive n (Time time) few so)

bit_alive : (n at value : ℕ) (o : Option ℕ) → n ≤ 196608 → n % 3 ≡ 0 → at < 4294967295 → (q : Place) → bit_set n at value o ≡ Some q → IsAlive q
bit_alive n at value None few so early = λ q e. none_gives q e
bit_alive n at value (Some m) few so early = only_gives IsAlive _ n (Set at m value) (λ _. alive n (Set at m value) few (so, early))

bits_alive : (n at : ℕ) (o : Option ℕ) → n ≤ 196608 → n % 3 ≡ 0 → at < 4294967295 → (q : Place) → token_read n at o ≡ Some q → IsAlive q
bits_alive n at None few so early = λ q e. none_gives q e
bits_alive n at (Some value) few so early = only_gives IsAlive (nat_lt 0 n) n (Bits at value) (λ h. alive n (Bits at value) few (so, early, ltb-true 0 n h))

token_alive : (n at value : ℕ) (o : Option ℕ) → n ≤ 196608 → n % 3 ≡ 0 → at < 4294967295 → (q : Place) → token_set n at value o ≡ Some q → IsAlive q
token_alive n at value None few so early = λ q e. none_gives q e
token_alive n at value (Some m) few so early = only_gives IsAlive _ n (Set at m value) (λ _. alive n (Set at m value) few (so, early))

body_alive : (n at : ℕ) (word : List ℕ) → n ≤ 196608 → n % 3 ≡ 0 → (q : Place) → in_body n at word ≡ Some q → IsAlive q
unfolding in_body
body_alive n at [] few so = λ q e. none_gives q e
body_alive n at (mark ∷ rest) few so =
    cond_gives IsAlive (mark == 35) _ _ (λ _. later_alive n at (number_below 4294967296 rest) few so)
    (cond_gives IsAlive (nat_lt at 4294967295) (change n at mark rest) None
    (λ h. let early = ltb-true at 4294967295 h in
    cond_gives IsAlive ((mark == 48) || (mark == 49)) _ _ (λ _. bit_alive n at (mark - 48) (variable_of n rest) few so early)
    (cond_gives IsAlive (mark == 98) _ None (λ _. bits_alive n at (token_in_bits rest) few so early) (λ q e. none_gives q e)))
    (λ q e. none_gives q e))

step_alive : (p q : Place) (word : List ℕ) → IsAlive p → step p word ≡ Some q → IsAlive q
unfolding step
step_alive p q word so e = by p.next so.next e
  where
    by : (next : Next) → NextIsAlive p.variables next → step (new_place p.variables next) word ≡ Some q → IsAlive q
    by (Before section) alive f = before_alive p.variables section word so.few alive q f
    by (Note section) alive f = note_alive p.variables section word so.few alive q f
    by (Inside section i) alive f = section_alive p.variables section i word so.few alive q f
    by (Time at) alive f = body_alive p.variables at word so.few alive q f
    by (Set at n value) alive f = body_alive p.variables at word so.few alive.0 q f
    by (Bits at value) alive f = token_alive p.variables at value (variable_of p.variables word) so.few alive.0 alive.1 q f

reached_alive : (p q : Place) (words : List (ℕ × List ℕ)) → IsAlive p → place_after p words ≡ Some q → IsAlive q
reached_alive p q [] so e = subst IsAlive (let f : Some p ≡ Some q = e in cc) so
reached_alive p q (word ∷ words) so e = by (step p word.1) (λ r. step_alive p r word.1 so) (λ r s. reached_alive r q words s) e
  where
    by : (o : Option Place) → ((r : Place) → o ≡ Some r → IsAlive r) → ((r : Place) → IsAlive r → place_after r words ≡ Some q → IsAlive q) → option_and_then (λ r. place_after r words) o ≡ Some q → IsAlive q
    by None here next f = absurd (let g : None ≡ Some q = f in cc)
    by (Some r) here next f = next r (here r refl) f

after_both : (p q : Place) (xs ys : List (ℕ × List ℕ)) → place_after p xs ≡ Some q → place_after p (xs ++ ys) ≡ place_after q ys
after_both p q xs ys h = goes_on p q xs ys h

-- a text none of whose words is refused goes on, after a blank, to one of the form
pub words_go_on : (bytes : List ℕ) (p : Place) → place_after start (placed_words bytes) ≡ Some p → (more : List ℕ) × (t : Trace) × Wave (bytes ++ 32 ∷ more) t
unfolding placed_words wave_of
words_go_on bytes p e =
    let end = alive_ends p (reached_alive start p (placed_words bytes) (record { few = omega arith; next = tt }) e) in
    let line = line_after 1 bytes in
    let more = map (on_line line) end.more in
    let whole = bytes ++ 32 ∷ spaced end.more in
    let words : placed_words whole ≡ placed_words bytes ++ more = both_read 1 [] bytes (spaced end.more) ∙ ap (λ (ws : List (ℕ × List ℕ)). placed_words bytes ++ ws) (spaced_read line end.more end.words) in
    let runs : read_words 0 start (placed_words bytes ++ more) ≡ Ok end.end = run_goes 0 start end.end (placed_words bytes ++ more) (after_both start p (placed_words bytes) more e ∙ end.leads line) end.time in
    (spaced end.more, trace_at (placed_words whole) end.end, ap (trace_of (placed_words whole)) (ap (read_words 0 start) words ∙ runs))

-- a refusal is told whatever follows
pub words_stop : (words : List (ℕ × List ℕ)) (last : ℕ) (from p : Place) (word : ℕ × List ℕ) (more : List (ℕ × List ℕ)) → place_after from words ≡ Some p → step p word.1 ≡ None → read_words last from (words ++ word ∷ more) ≡ Err word.0
words_stop [] last from p word more e h =
    let same : from ≡ p = (let f : Some from ≡ Some p = e in cc) in
    ap (λ (r : Place). going_on word.0 (step r word.1) (λ q. read_words word.0 q more)) same ∙ ap (λ (o : Option Place). going_on word.0 o (λ q. read_words word.0 q more)) h
words_stop (first ∷ words) last from p word more e h = by (step from first.1) (λ r f. words_stop words first.0 r p word more f h) e
  where
    by : (o : Option Place) → ((r : Place) → place_after r words ≡ Some p → read_words first.0 r (words ++ word ∷ more) ≡ Err word.0) → option_and_then (λ r. place_after r words) o ≡ Some p → going_on first.0 o (λ q. read_words first.0 q (words ++ word ∷ more)) ≡ Err word.0
    by None next f = absurd (let g : None ≡ Some p = f in cc)
    by (Some r) next f = next r f
