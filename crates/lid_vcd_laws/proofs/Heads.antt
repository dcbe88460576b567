-- The sections before the body lead to it.
use Rattle.std.proofs.Common.{◌≡◌, ℕ, zero, suc, ◌+◌, ◌-◌, ◌/◌, ◌%◌, ◌<◌, ◌≤◌, inl, inr, Bool, true, false, cond, List, [], ◌∷◌, ◌++◌, length, take, drop, refl, ◌∙◌, ap, subst, length-append, arith}
use Rattle.std.specs.Prelude.{Some, codes, bytes_eq}
use Rattle.std.proofs.Math.Seq.{take-append_seam, drop-append_seam}
use Rattle.std.proofs.lemmas.Bool.{and_from, eq-eqb}
use Rattle.lid_base.proofs.Lists.{same_bytes}
use Rattle.lid_base.specs.Numbers.{number_below}
use Rattle.lid_vcd_form.specs.declared.form.Section.{Section}
use Rattle.lid_vcd_form.specs.declared.form.Section.TheVariants.{Timescale, Scope, Variable, Upscope, Definitions, Body}
use Rattle.lid_vcd_form.specs.declared.form.Next.{Next}
use Rattle.lid_vcd_form.specs.declared.form.Next.TheVariants.{Before, Note, Inside}
use Rattle.lid_vcd_form.specs.declared.form.Place.{Place}
use Rattle.lid_vcd_form.specs.Ids.{id_of, width_of, ending_of}
use Rattle.lid_vcd_form.specs.Form.{new_place, start, step, is_end, is_note, is_name, is_stem, is_number, begins, in_scope, in_variable}
use Rattle.lid_vcd.proofs.HeadRead.{only_true, same_word, word_0, word_1, word_2, word_3, word_5, closing_0, closing_1, closing_2, closing_3}
use Rattle.lid_vcd_laws.specs.Grammar.{HaveNoEnd, BeginsNote, IsNote, AreNotes, AreNotesAnd, IsTimescale, IsScope, IsDeclaration, AreDeclarations, IsUpscope, IsDefinitions, IsHead}
use Rattle.lid_base_lines.specs.Texts.{Words}
use Rattle.lid_vcd_laws.proofs.Leading.{Passes, IsQuiet, passes_none, passes_then, word_passes, passes_same}

before_quiet : (section : Section) → IsQuiet (Before section)
before_quiet section = record { cells = λ at values. refl; values = λ values. refl }

note_quiet : (section : Section) → IsQuiet (Note section)
note_quiet section = record { cells = λ at values. refl; values = λ values. refl }

inside_quiet : (section : Section) (i : ℕ) → IsQuiet (Inside section i)
inside_quiet section i = record { cells = λ at values. refl; values = λ values. refl }

no_end : (word : List ℕ) → (word ≡ codes "$end" → ⊥) → is_end word ≡ false
no_end word other = by (bytes_eq word (codes "$end")) refl
  where
    by : (b : Bool) → bytes_eq word (codes "$end") ≡ b → b ≡ false
    by true e = absurd (other (same_bytes word (codes "$end") e))
    by false e = refl

-- words up to `$end`
module _ (n : ℕ) (within after : Next) (quiet : IsQuiet within) (done : IsQuiet after) (steps : (word : List ℕ) → step (new_place n within) word ≡ Some (new_place n (cond (is_end word) after within))) where
  inner_passes : (inner : Words) → HaveNoEnd inner → Passes (new_place n within) (inner ++ codes "$end" ∷ []) (new_place n after)
  inner_passes [] none = word_passes (new_place n within) (new_place n after) (new_place n after) (codes "$end") [] (steps (codes "$end")) done (passes_none (new_place n after))
  inner_passes (w ∷ ws) none =
      word_passes (new_place n within) (new_place n within) (new_place n after) w (ws ++ codes "$end" ∷ [])
      (steps w ∙ ap (λ (b : Bool). Some (new_place n (cond b after within))) (no_end w none.0)) quiet (inner_passes ws none.1)

note_steps : (n : ℕ) (section : Section) (word : List ℕ) → step (new_place n (Note section)) word ≡ Some (new_place n (cond (is_end word) (Before section) (Note section)))
unfolding step
note_steps n section word = refl

timescale_steps : (n : ℕ) (word : List ℕ) → step (new_place n (Inside Timescale 1)) word ≡ Some (new_place n (cond (is_end word) (Before Scope) (Inside Timescale 1)))
unfolding step
timescale_steps n word = refl

-- notes
is_note_by : (word : List ℕ) → BeginsNote word → is_note word ≡ true
is_note_by word (inl is) = ap is_note is
is_note_by word (inr (inl is)) = ap is_note is
is_note_by word (inr (inr is)) = ap is_note is

note_begins : (n : ℕ) (section : Section) (word : List ℕ) → BeginsNote word → step (new_place n (Before section)) word ≡ Some (new_place n (Note section))
unfolding step
note_begins n section word is = ap (λ (b : Bool). cond b (Some (new_place n (Note section))) (begins n section word)) (is_note_by word is)

note_passes : (n : ℕ) (section : Section) (words : Words) → IsNote words → Passes (new_place n (Before section)) words (new_place n (Before section))
note_passes n section words is =
    passes_same (new_place n (Before section)) (new_place n (Before section)) words (is.name ∷ is.inner ++ codes "$end" ∷ []) is.are
    (word_passes (new_place n (Before section)) (new_place n (Note section)) (new_place n (Before section)) is.name (is.inner ++ codes "$end" ∷ []) (note_begins n section is.name is.begins) (note_quiet section)
    (inner_passes n (Note section) (Before section) (note_quiet section) (before_quiet section) (note_steps n section) is.inner is.no_end))

pub notes_pass : (n : ℕ) (section : Section) (notes : List Words) (words : Words) → AreNotes notes words → Passes (new_place n (Before section)) words (new_place n (Before section))
notes_pass n section [] words are = passes_same (new_place n (Before section)) (new_place n (Before section)) words [] are (passes_none (new_place n (Before section)))
notes_pass n section (note ∷ notes) words are =
    passes_same (new_place n (Before section)) (new_place n (Before section)) words (note ++ are.0) are.1
    (passes_then note are.0 (new_place n (Before section)) (new_place n (Before section)) (new_place n (Before section)) (note_passes n section note are.2) (notes_pass n section notes are.0 are.3))

-- notes and a thing
pub thing_passes : (IsThing : Words → Type 0) (n : ℕ) (section : Section) (q : Place) (words : Words) → AreNotesAnd IsThing words → ((thing : Words) → IsThing thing → Passes (new_place n (Before section)) thing q) → Passes (new_place n (Before section)) words q
thing_passes IsThing n section q words are each =
    passes_same (new_place n (Before section)) q words (are.before ++ are.thing) are.are
    (passes_then are.before are.thing (new_place n (Before section)) (new_place n (Before section)) q (notes_pass n section are.notes are.before are.are_notes) (each are.thing are.is))

timescale_begins : (n : ℕ) → step (new_place n (Before Timescale)) (codes "$timescale") ≡ Some (new_place n (Inside Timescale 1))
unfolding step begins
timescale_begins n = refl

timescale_passes : (n : ℕ) (words : Words) → IsTimescale words → Passes (new_place n (Before Timescale)) words (new_place n (Before Scope))
timescale_passes n words is =
    passes_same (new_place n (Before Timescale)) (new_place n (Before Scope)) words (codes "$timescale" ∷ is.inner ++ codes "$end" ∷ []) is.are
    (word_passes (new_place n (Before Timescale)) (new_place n (Inside Timescale 1)) (new_place n (Before Scope)) (codes "$timescale") (is.inner ++ codes "$end" ∷ []) (timescale_begins n) (inside_quiet Timescale 1)
    (inner_passes n (Inside Timescale 1) (Before Scope) (inside_quiet Timescale 1) (before_quiet Scope) (timescale_steps n) is.inner is.no_end))

-- words that are fixed
scope_passes : (n : ℕ) (words : Words) → IsScope words → Passes (new_place n (Before Scope)) words (new_place n (Before Variable))
unfolding step begins in_scope
scope_passes n words is =
    passes_same (new_place n (Before Scope)) (new_place n (Before Variable)) words _ is
    (word_passes (new_place n (Before Scope)) (new_place n (Inside Scope 1)) (new_place n (Before Variable)) (codes "$scope") (codes "module" ∷ codes "lid" ∷ codes "$end" ∷ []) refl (inside_quiet Scope 1)
    (word_passes (new_place n (Inside Scope 1)) (new_place n (Inside Scope 2)) (new_place n (Before Variable)) (codes "module") (codes "lid" ∷ codes "$end" ∷ []) refl (inside_quiet Scope 2)
    (word_passes (new_place n (Inside Scope 2)) (new_place n (Inside Scope 3)) (new_place n (Before Variable)) (codes "lid") (codes "$end" ∷ []) refl (inside_quiet Scope 3)
    (word_passes (new_place n (Inside Scope 3)) (new_place n (Before Variable)) (new_place n (Before Variable)) (codes "$end") [] refl (before_quiet Variable) (passes_none (new_place n (Before Variable)))))))

-- a name of a variable
name_by : (n : ℕ) (digits : List ℕ) → number_below 4294967296 digits ≡ Some (n / 3) → is_name n (codes "s" ++ digits ++ ending_of n) ≡ true
unfolding is_name
name_by n digits writes =
    let stem : List ℕ = 115 ∷ digits in
    let ending = ending_of n in
    let long : length (stem ++ ending) - length ending ≡ length stem = (let sum = length-append stem ending in omega arith) in
    let end : drop (length (stem ++ ending) - length ending) (stem ++ ending) ≡ ending = ap (λ (k : ℕ). drop k (stem ++ ending)) long ∙ drop-append_seam stem ending in
    let front : take (length (stem ++ ending) - length ending) (stem ++ ending) ≡ stem = ap (λ (k : ℕ). take k (stem ++ ending)) long ∙ take-append_seam stem ending in
    let number : is_stem (n / 3) stem ≡ true = ap (is_number (n / 3)) writes ∙ eq-eqb (n / 3) (n / 3) refl in
    and_from (bytes_eq (drop (length (stem ++ ending) - length ending) (stem ++ ending)) ending) (is_stem (n / 3) (take (length (stem ++ ending) - length ending) (stem ++ ending)))
    (ap (λ (xs : List ℕ). bytes_eq xs ending) end ∙ same_word ending)
    (ap (is_stem (n / 3)) front ∙ number)

name_step : (n : ℕ) (digits : List ℕ) → number_below 4294967296 digits ≡ Some (n / 3) → step (new_place (n + 1) (Inside Variable 4)) (codes "s" ++ digits ++ ending_of n) ≡ Some (new_place (n + 1) (Inside Variable 5))
unfolding step in_variable
name_step n digits writes =
    let less : n + 1 - 1 ≡ n = omega arith in
    let word = codes "s" ++ digits ++ ending_of n in
    only_true (is_name (n + 1 - 1) word) (n + 1) (Inside Variable 5) (ap (λ (m : ℕ). is_name m word) less ∙ name_by n digits writes)

declaration_passes : (n : ℕ) → n < 196608 → (words : Words) → IsDeclaration n words → Passes (new_place n (Before Variable)) words (new_place (n + 1) (Before Variable))
declaration_passes n small words is =
    let to = new_place (n + 1) (Before Variable) in
    passes_same (new_place n (Before Variable)) to words _ is.are
    (word_passes (new_place n (Before Variable)) (new_place (n + 1) (Inside Variable 1)) to (codes "$var") (codes "wire" ∷ width_of n ∷ id_of n ∷ (codes "s" ++ is.digits ++ ending_of n) ∷ codes "$end" ∷ []) (word_0 n small) (inside_quiet Variable 1)
    (word_passes (new_place (n + 1) (Inside Variable 1)) (new_place (n + 1) (Inside Variable 2)) to (codes "wire") (width_of n ∷ id_of n ∷ (codes "s" ++ is.digits ++ ending_of n) ∷ codes "$end" ∷ []) (word_1 (n + 1)) (inside_quiet Variable 2)
    (word_passes (new_place (n + 1) (Inside Variable 2)) (new_place (n + 1) (Inside Variable 3)) to (width_of n) (id_of n ∷ (codes "s" ++ is.digits ++ ending_of n) ∷ codes "$end" ∷ []) (word_2 n) (inside_quiet Variable 3)
    (word_passes (new_place (n + 1) (Inside Variable 3)) (new_place (n + 1) (Inside Variable 4)) to (id_of n) ((codes "s" ++ is.digits ++ ending_of n) ∷ codes "$end" ∷ []) (word_3 n) (inside_quiet Variable 4)
    (word_passes (new_place (n + 1) (Inside Variable 4)) (new_place (n + 1) (Inside Variable 5)) to (codes "s" ++ is.digits ++ ending_of n) (codes "$end" ∷ []) (name_step n is.digits is.station) (inside_quiet Variable 5)
    (word_passes (new_place (n + 1) (Inside Variable 5)) to to (codes "$end") [] (word_5 (n + 1)) (before_quiet Variable) (passes_none to)))))))

declarations_pass : (n left : ℕ) → n + left ≤ 196608 → (words : Words) → AreDeclarations n left words → Passes (new_place n (Before Variable)) words (new_place (n + left) (Before Variable))
declarations_pass n zero few words are =
    let same : n ≡ n + 0 = omega arith in
    subst (λ (m : ℕ). Passes (new_place n (Before Variable)) words (new_place m (Before Variable))) same
    (passes_same (new_place n (Before Variable)) (new_place n (Before Variable)) words [] are (passes_none (new_place n (Before Variable))))
declarations_pass n (suc left) few words are =
    let same : n + 1 + left ≡ n + suc left = omega arith in
    subst (λ (m : ℕ). Passes (new_place n (Before Variable)) words (new_place m (Before Variable))) same
    (passes_same (new_place n (Before Variable)) (new_place (n + 1 + left) (Before Variable)) words (are.0 ++ are.1) are.2
    (passes_then are.0 are.1 (new_place n (Before Variable)) (new_place (n + 1) (Before Variable)) (new_place (n + 1 + left) (Before Variable))
    (thing_passes (IsDeclaration n) n Variable (new_place (n + 1) (Before Variable)) are.0 are.3 (declaration_passes n (omega arith)))
    (declarations_pass (n + 1) left (omega arith) are.1 are.4)))

upscope_passes : (n : ℕ) → n % 3 ≡ 0 → (words : Words) → IsUpscope words → Passes (new_place n (Before Variable)) words (new_place n (Before Definitions))
upscope_passes n whole words is =
    passes_same (new_place n (Before Variable)) (new_place n (Before Definitions)) words _ is
    (word_passes (new_place n (Before Variable)) (new_place n (Inside Upscope 1)) (new_place n (Before Definitions)) (codes "$upscope") (codes "$end" ∷ []) (closing_0 n (eq-eqb (n % 3) 0 whole)) (inside_quiet Upscope 1)
    (word_passes (new_place n (Inside Upscope 1)) (new_place n (Before Definitions)) (new_place n (Before Definitions)) (codes "$end") [] (closing_1 n) (before_quiet Definitions) (passes_none (new_place n (Before Definitions)))))

definitions_pass : (n : ℕ) (words : Words) → IsDefinitions words → Passes (new_place n (Before Definitions)) words (new_place n (Before Body))
definitions_pass n words is =
    passes_same (new_place n (Before Definitions)) (new_place n (Before Body)) words _ is
    (word_passes (new_place n (Before Definitions)) (new_place n (Inside Definitions 1)) (new_place n (Before Body)) (codes "$enddefinitions") (codes "$end" ∷ []) (closing_2 n) (inside_quiet Definitions 1)
    (word_passes (new_place n (Inside Definitions 1)) (new_place n (Before Body)) (new_place n (Before Body)) (codes "$end") [] (closing_3 n) (before_quiet Body) (passes_none (new_place n (Before Body)))))

pub head_passes : (variables : ℕ) → variables ≤ 196608 → variables % 3 ≡ 0 → (words : Words) → IsHead variables words → Passes start words (new_place variables (Before Body))
head_passes variables few whole words is =
    let to = new_place variables (Before Body) in
    let none : 0 + variables ≡ variables = omega arith in
    let declared : Passes (new_place 0 (Before Variable)) is.declarations (new_place variables (Before Variable)) = subst (λ (m : ℕ). Passes (new_place 0 (Before Variable)) is.declarations (new_place m (Before Variable))) none (declarations_pass 0 variables (omega arith) is.declarations is.are_declarations) in
    passes_same start to words _ is.are
    (passes_then is.timescale _ start (new_place 0 (Before Scope)) to (thing_passes IsTimescale 0 Timescale (new_place 0 (Before Scope)) is.timescale is.is_timescale (timescale_passes 0))
    (passes_then is.scope _ (new_place 0 (Before Scope)) (new_place 0 (Before Variable)) to (thing_passes IsScope 0 Scope (new_place 0 (Before Variable)) is.scope is.is_scope (scope_passes 0))
    (passes_then is.declarations _ (new_place 0 (Before Variable)) (new_place variables (Before Variable)) to declared
    (passes_then is.upscope _ (new_place variables (Before Variable)) (new_place variables (Before Definitions)) to (thing_passes IsUpscope variables Variable (new_place variables (Before Definitions)) is.upscope is.is_upscope (upscope_passes variables whole))
    (thing_passes IsDefinitions variables Definitions to is.definitions is.is_definitions (definitions_pass variables))))))
