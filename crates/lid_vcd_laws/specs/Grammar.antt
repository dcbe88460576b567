-- The grammar of a dump: a header of sections and declarations, and then times with their changes; and what it shows.
use Rattle.std.specs.Prelude.{◌≡◌, ℕ, zero, suc, ◌+◌, ◌-◌, ◌*◌, ◌/◌, ◌^◌, ◌<◌, ◌≤◌, ◌⊎◌, true, false, List, [], ◌∷◌, ◌++◌, map, replicate, slice_set, codes, Some}
use Rattle.std.specs.List.{AllByRecursion}
use Rattle.lid_base.specs.Numbers.{number_below}
use Rattle.lid_base.specs.declared.runs.Shown.{Shown}
use Rattle.lid_texts_runs.specs.declared.trace.Trace.{Trace}
use Rattle.lid_vcd_form.specs.Ids.{id_of, width_of, ending_of, is_token, token_in_bits}
use Rattle.lid_vcd_form.specs.Words.{placed_words}
use Rattle.lid_base_lines.specs.Texts.{Words}
use Rattle.lid_vcd_form.specs.Shows.{cycles_of}

-- no word of them is `$end`
abbrev pub HaveNoEnd : Words → Type 0
HaveNoEnd words = AllByRecursion (λ w. w ≡ codes "$end" → ⊥) words

-- what begins a note
abbrev pub BeginsNote : List ℕ → Type 0
BeginsNote word = (word ≡ codes "$date") ⊎ ((word ≡ codes "$version") ⊎ (word ≡ codes "$comment"))

-- a note: `$date`, `$version` or `$comment`, any words, `$end`
pub record IsNote (words : Words) : Type 0 where
  pub name : List ℕ
  pub inner : Words
  pub are : words ≡ name ∷ inner ++ codes "$end" ∷ []
  pub begins : BeginsNote name
  pub no_end : HaveNoEnd inner

-- notes, one after the other
abbrev pub AreNotes : List Words → Words → Type 0
AreNotes [] words = words ≡ []
AreNotes (note ∷ notes) words = (rest : Words) × (words ≡ note ++ rest) × IsNote note × AreNotes notes rest

-- any number of notes, and then a thing
pub record AreNotesAnd (IsThing : Words → Type 0) (words : Words) : Type 0 where
  pub notes : List Words
  pub before : Words
  pub thing : Words
  pub are : words ≡ before ++ thing
  pub are_notes : AreNotes notes before
  pub is : IsThing thing

-- `$timescale`, any words, `$end`
pub record IsTimescale (words : Words) : Type 0 where
  pub inner : Words
  pub are : words ≡ codes "$timescale" ∷ inner ++ codes "$end" ∷ []
  pub no_end : HaveNoEnd inner

abbrev pub IsScope : Words → Type 0
IsScope words = words ≡ codes "$scope" ∷ codes "module" ∷ codes "lid" ∷ codes "$end" ∷ []

-- `$var wire WIDTH ID NAME $end` of variable n, whose name is `s`, the number of its station in decimal digits, and what it is
pub record IsDeclaration (n : ℕ) (words : Words) : Type 0 where
  pub digits : List ℕ
  pub are : words ≡ codes "$var" ∷ codes "wire" ∷ width_of n ∷ id_of n ∷ (codes "s" ++ digits ++ ending_of n) ∷ codes "$end" ∷ []
  pub station : number_below (2 ^ 32) digits ≡ Some (n / 3)

-- the declarations of so many variables, from the n-th on
abbrev pub AreDeclarations : ℕ → ℕ → Words → Type 0
AreDeclarations n zero words = words ≡ []
AreDeclarations n (suc left) words =
    (first : Words) × (rest : Words) × (words ≡ first ++ rest) × AreNotesAnd (IsDeclaration n) first × AreDeclarations (n + 1) left rest

abbrev pub IsUpscope : Words → Type 0
IsUpscope words = words ≡ codes "$upscope" ∷ codes "$end" ∷ []

abbrev pub IsDefinitions : Words → Type 0
IsDefinitions words = words ≡ codes "$enddefinitions" ∷ codes "$end" ∷ []

-- the header: a timescale, the scope, so many declarations, the end of the scope and that of the header
pub record IsHead (variables : ℕ) (words : Words) : Type 0 where
  pub timescale : Words
  pub scope : Words
  pub declarations : Words
  pub upscope : Words
  pub definitions : Words
  pub are : words ≡ timescale ++ (scope ++ (declarations ++ (upscope ++ definitions)))
  pub is_timescale : AreNotesAnd IsTimescale timescale
  pub is_scope : AreNotesAnd IsScope scope
  pub are_declarations : AreDeclarations 0 variables declarations
  pub is_upscope : AreNotesAnd IsUpscope upscope
  pub is_definitions : AreNotesAnd IsDefinitions definitions

-- a variable that gets a value
pub record Change : Type 0 where
  pub variable : ℕ
  pub value : ℕ

-- `0ID` or `1ID`
pub record IsBitChange (c : Change) (words : Words) : Type 0 where
  pub are : words ≡ ((48 + c.value) ∷ id_of c.variable) ∷ []
  pub bit : c.value ≤ 1
  pub plain : is_token c.variable ≡ false

-- `bBITS ID`
pub record IsTokenChange (c : Change) (words : Words) : Type 0 where
  pub bits : List ℕ
  pub are : words ≡ (98 ∷ bits) ∷ id_of c.variable ∷ []
  pub writes : token_in_bits bits ≡ Some c.value
  pub token : is_token c.variable ≡ true

-- a change of one of so many variables
abbrev pub IsChange : ℕ → Change → Words → Type 0
IsChange variables c words = (c.variable < variables) × (IsBitChange c words ⊎ IsTokenChange c words)

abbrev pub AreChanges : ℕ → List Change → Words → Type 0
AreChanges variables [] words = words ≡ []
AreChanges variables (c ∷ cs) words =
    (first : Words) × (rest : Words) × (words ≡ first ++ rest) × IsChange variables c first × AreChanges variables cs rest

-- `#T`
pub record IsTime (at : ℕ) (word : List ℕ) : Type 0 where
  pub digits : List ℕ
  pub are : word ≡ 35 ∷ digits
  pub writes : number_below (2 ^ 32) digits ≡ Some at

-- the changes at a time, and the next time
pub record Step : Type 0 where
  pub changes : List Change
  pub until : ℕ

-- changes and a later time, again and again; after the last time stands nothing
abbrev pub AreSteps : ℕ → ℕ → List Step → Words → Type 0
AreSteps variables at [] words = words ≡ []
AreSteps variables at (step ∷ steps) words =
    (changes : Words) × (time : List ℕ) × (rest : Words)
    × (words ≡ changes ++ time ∷ rest)
    × AreChanges variables step.changes changes × (at < step.until) × IsTime step.until time × AreSteps variables step.until steps rest

-- the body: it begins with `#0`
pub record IsBody (variables : ℕ) (steps : List Step) (words : Words) : Type 0 where
  pub rest : Words
  pub are : words ≡ codes "#0" ∷ rest
  pub are_steps : AreSteps variables 0 steps rest

-- a dump of so many stations, with three variables each
pub record IsDump (stations : ℕ) (steps : List Step) (words : Words) : Type 0 where
  pub head : Words
  pub body : Words
  pub are : words ≡ head ++ body
  pub is_head : IsHead (3 * stations) head
  pub is_body : AreNotesAnd (IsBody (3 * stations) steps) body

-- the values once these changes were made
abbrev pub with_changes : List ℕ → List Change → List ℕ
with_changes values [] = values
with_changes values (c ∷ cs) = with_changes (slice_set values c.variable c.value) cs

-- what is shown from a time on: with each step the cycles up to the next time, in which the variables have the values that were
-- set last
abbrev pub shown_from : ℕ → List ℕ → List Step → List Shown
shown_from at values [] = []
shown_from at values (step ∷ steps) =
    cycles_of (step.until - at) (with_changes values step.changes) ++ shown_from step.until (with_changes values step.changes) steps

-- the last time
abbrev pub last_time : ℕ → List Step → ℕ
last_time at [] = at
last_time at (step ∷ steps) = last_time step.until steps

-- there are as many cycles as the last time says, and a variable that was not yet set is 0
abbrev pub trace_with : ℕ → List Step → Trace
trace_with stations steps = record {
  stations = stations;
  cycles = last_time 0 steps;
  cells = shown_from 0 (replicate (3 * stations) 0) steps;
}

-- a text that is a dump of a trace, of at most 65,536 stations
pub record IsDumpOf (trace : Trace) (bytes : List ℕ) : Type 0 where
  pub stations : ℕ
  pub steps : List Step
  pub few : stations ≤ 65536
  pub is : IsDump stations steps (map (λ w. w.1) (placed_words bytes))
  pub shows : trace ≡ trace_with stations steps
