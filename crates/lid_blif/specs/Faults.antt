-- Why a text stands for no design. What a line means is said by looking back: `before` has the
-- lines before it, latest first.
use Rattle.std.specs.Prelude.{ℕ, ◌+◌, ◌==◌, nat_lt, Bool, true, false, not, ◌&&◌, ◌||◌, if◌then◌else◌, List, [], ◌∷◌, ◌++◌, length, drop, bytes_eq, Option, Some, None, is_some}
use Rattle.std.specs.List.{list_any, list_all}
use Rattle.std.specs.Option.{option_map_or}
use Rattle.lid_base.specs.Lines.{logical_lines, text_fault}
use Rattle.lid_base.specs.declared.line.Line.{Line}
use Rattle.lid_base.specs.declared.line.TextFault.{TextFault}
use Rattle.lid_base.specs.declared.which.Which.TheVariants.{FileBytes, Models, CoverRows}
use Rattle.lid_blif.specs.declared.fault.BlifFault.{BlifFault}
use Rattle.lid_blif.specs.declared.fault.BlifFault.TheVariants.{Text, NoModel, Unsupported, Arity, RowOutside, RowShape, MixedRows, LatchType, LatchInit, BindShape, DuplicateModel, TooManyInputs, Limit}
use Rattle.lid_blif.specs.declared.keyword.Keyword.{Keyword}
use Rattle.lid_blif.specs.declared.keyword.Keyword.TheVariants.{Model, Names, Latch, Subckt, End, Unknown, Row}
use Rattle.lid_blif.specs.declared.context.Context.{Context}
use Rattle.lid_base.specs.Words.{word_at, last_word}
use Rattle.lid_blif.specs.Words.{keyword_of, is_line, leading, inputs_of, is_zero, is_one, is_row_of, is_latch_type, is_latch_init, has_type, has_init, is_binding}

-- a model is open after `.model` and until `.end`
abbrev pub open_after : Keyword → Bool → Bool
open_after Model open_before = true
open_after End open_before = false
open_after _ open_before = open_before

-- whether the next line stands in a model
abbrev pub is_inside : List Line → Bool
is_inside [] = false
is_inside (l ∷ before) = open_after (keyword_of l.words) (is_inside before)

-- a `.names` line begins a cover, rows go on with it, and any other line ends it
abbrev pub cover_after : Keyword → Line → Option Line → Option Line
cover_after Names l cover = Some l
cover_after Row l cover = cover
cover_after _ l cover = None

-- the `.names` line of the cover that a row in the next line belongs to
abbrev pub cover_line : List Line → Option Line
cover_line [] = None
cover_line (l ∷ before) = cover_after (keyword_of l.words) l (cover_line before)

-- the rows just before the next line
abbrev pub rows_back : List Line → List Line
rows_back before = leading (is_line Row) before

abbrev pub ends_in_zero : Line → Bool
ends_in_zero row = is_zero (last_word row.words)

abbrev pub ends_in_one : Line → Bool
ends_in_one row = is_one (last_word row.words)

-- the number of rows
abbrev pub row_count : List Line → ℕ
row_count [] = 0
row_count (l ∷ before) = if is_line Row l then row_count before + 1 else row_count before

-- the names of the models, earliest first
abbrev pub model_names : List Line → List (List ℕ)
model_names [] = []
model_names (l ∷ before) = if is_line Model l then model_names before ++ word_at l.words 1 ∷ [] else model_names before

-- what these lines mean for the next line
unfoldable pub context_of : List Line → Context
context_of before = record {
  inside = is_inside before;
  covered = is_some (cover_line before);
  inputs = option_map_or (λ l. inputs_of l.words) (cover_line before) 0;
  zeros = list_any ends_in_zero (rows_back before);
  ones = list_any ends_in_one (rows_back before);
  rows = row_count before;
  models = length (model_names before);
}

-- a condition, and the fault where it holds
abbrev pub Case : Type 0
Case = Bool × BlifFault

-- the first fault whose condition holds
abbrev pub told : List Case → Option BlifFault
told [] = None
told (c ∷ cases) = if c.0 then Some c.1 else told cases

abbrev pub no_model_case : Context → ℕ → Case
no_model_case context number = (not context.inside, NoModel number)

abbrev pub model_cases : Context → List (List ℕ) → Line → List Case
model_cases context names l =
    (not (length l.words == 2), Arity l.number)
    ∷ (list_any (λ name. bytes_eq name (word_at l.words 1)) names, DuplicateModel l.number)
    ∷ (nat_lt 4096 (context.models + 1), Limit Models (context.models + 1))
    ∷ []

abbrev pub names_cases : Context → Line → List Case
names_cases context l =
    no_model_case context l.number
    ∷ (nat_lt (length l.words) 2, Arity l.number)
    ∷ (nat_lt 64 (inputs_of l.words), TooManyInputs l.number)
    ∷ []

abbrev pub latch_cases : Context → Line → List Case
latch_cases context l =
    no_model_case context l.number
    ∷ (nat_lt (length l.words) 3 || nat_lt 6 (length l.words), Arity l.number)
    ∷ (has_type l.words && not (is_latch_type (word_at l.words 3)), LatchType l.number)
    ∷ (has_init l.words && not (is_latch_init (last_word l.words)), LatchInit l.number)
    ∷ []

abbrev pub subckt_cases : Context → Line → List Case
subckt_cases context l =
    no_model_case context l.number
    ∷ (nat_lt (length l.words) 2, Arity l.number)
    ∷ (not (list_all is_binding (drop 2 l.words)), BindShape l.number)
    ∷ []

-- a row's output differs from that of an earlier row of its cover
abbrev pub is_mixed : Context → Line → Bool
is_mixed context l = if ends_in_zero l then context.ones else context.zeros

abbrev pub row_cases : Context → Line → List Case
row_cases context l =
    no_model_case context l.number
    ∷ (not context.covered, RowOutside l.number)
    ∷ (not (is_row_of context.inputs l.words), RowShape l.number)
    ∷ (is_mixed context l, MixedRows l.number)
    ∷ (nat_lt 1048576 (context.rows + 1), Limit CoverRows (context.rows + 1))
    ∷ []

-- what may be at fault in a line, in the order in which it is told
abbrev pub cases_of : Keyword → Context → List (List ℕ) → Line → List Case
cases_of Model context names l = model_cases context names l
cases_of Names context names l = names_cases context l
cases_of Latch context names l = latch_cases context l
cases_of Subckt context names l = subckt_cases context l
cases_of Row context names l = row_cases context l
cases_of Unknown context names l = no_model_case context l.number ∷ (true, Unsupported l.number) ∷ []
cases_of _ context names l = no_model_case context l.number ∷ []

-- the fault of a line in a context, after models of these names
unfoldable pub line_fault : Context → List (List ℕ) → Line → Option BlifFault
line_fault context names l = told (cases_of (keyword_of l.words) context names l)

-- the fault of the first faulty line
abbrev pub first_fault : List Line → List Line → Option BlifFault
first_fault before [] = None
first_fault before (l ∷ ls) = or_fault (line_fault (context_of before) (model_names before) l) (first_fault (l ∷ before) ls)
  where
    or_fault : Option BlifFault → Option BlifFault → Option BlifFault
    or_fault None later = later
    or_fault (Some fault) later = Some fault

-- the fault of a text with these logical lines
abbrev pub lines_fault : List Line → Option BlifFault
lines_fault [] = Some (NoModel 0)
lines_fault (l ∷ ls) = first_fault [] (l ∷ ls)

abbrev pub after_text : Option TextFault → List Line → Option BlifFault
after_text (Some fault) ls = Some (Text fault)
after_text None ls = lines_fault ls

-- the fault of a text, where it has one
unfoldable pub blif_fault : List ℕ → Option BlifFault
blif_fault bytes =
    if nat_lt 16777216 (length bytes)
    then Some (Limit FileBytes (length bytes))
    else after_text (text_fault 1024 bytes) (logical_lines bytes)
