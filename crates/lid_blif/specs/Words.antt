-- What the words of a logical line say.
use Rattle.std.specs.Prelude.{ℕ, ◌-◌, ◌==◌, nat_le, Bool, true, false, not, ◌&&◌, ◌||◌, if◌then◌else◌, List, [], ◌∷◌, length, bytes_eq, codes}
use Rattle.std.specs.List.{list_any, list_all, before_first, after_first}
use Rattle.lid_base.specs.Words.{word_at, last_word}
use Rattle.lid_base.specs.declared.line.Line.{Line}
use Rattle.lid_blif.specs.declared.keyword.Keyword.{Keyword}
use Rattle.lid_blif.specs.declared.keyword.Keyword.TheVariants.{Model, Inputs, Outputs, Clock, Names, Latch, Subckt, End, Unknown, Row}

abbrev pub begins_with_dot : List ℕ → Bool
begins_with_dot [] = false
begins_with_dot (b ∷ bs) = b == 46

-- what a first word says
unfoldable pub named_keyword : List ℕ → Keyword
named_keyword word =
    if bytes_eq word (codes ".model") then Model
    else if bytes_eq word (codes ".inputs") then Inputs
    else if bytes_eq word (codes ".outputs") then Outputs
    else if bytes_eq word (codes ".clock") then Clock
    else if bytes_eq word (codes ".names") then Names
    else if bytes_eq word (codes ".latch") then Latch
    else if bytes_eq word (codes ".subckt") then Subckt
    else if bytes_eq word (codes ".end") then End
    else if begins_with_dot word then Unknown
    else Row

abbrev pub keyword_of : List (List ℕ) → Keyword
keyword_of words = named_keyword (word_at words 0)

-- whether two keywords are the same
abbrev pub same_keyword : Keyword → Keyword → Bool
same_keyword Model Model = true
same_keyword Inputs Inputs = true
same_keyword Outputs Outputs = true
same_keyword Clock Clock = true
same_keyword Names Names = true
same_keyword Latch Latch = true
same_keyword Subckt Subckt = true
same_keyword End End = true
same_keyword Unknown Unknown = true
same_keyword Row Row = true
same_keyword _ _ = false

-- whether a line begins with this keyword
abbrev pub is_line : Keyword → Line → Bool
is_line keyword line = same_keyword keyword (keyword_of line.words)

-- a line that is no `.model`
abbrev pub is_inner : Line → Bool
is_inner l = not (is_line Model l)

-- the lines from the first on that pass a test, up to the first that does not
abbrev pub leading : (Line → Bool) → List Line → List Line
leading p [] = []
leading p (l ∷ ls) = if p l then l ∷ leading p ls else []

-- the number of inputs of a `.names` line
abbrev pub inputs_of : List (List ℕ) → ℕ
inputs_of words = length words - 2

abbrev pub is_zero : List ℕ → Bool
is_zero word = bytes_eq word (codes "0")

abbrev pub is_one : List ℕ → Bool
is_one word = bytes_eq word (codes "1")

-- an input character of a row
abbrev pub is_input_character : ℕ → Bool
is_input_character b = (b == 48) || ((b == 49) || (b == 45))

-- a row of a cover with so many inputs: a character for each input, then the output; without inputs
-- the output alone
abbrev pub is_row_of : ℕ → List (List ℕ) → Bool
is_row_of inputs words =
    (if inputs == 0 then length words == 1
    else (length words == 2) && ((length (word_at words 0) == inputs) && list_all is_input_character (word_at words 0)))
    && (is_zero (last_word words) || is_one (last_word words))

-- the types of latches
abbrev pub is_latch_type : List ℕ → Bool
is_latch_type word = bytes_eq word (codes "re") || bytes_eq word (codes "fe")

abbrev pub is_latch_init : List ℕ → Bool
is_latch_init word = is_zero word || (is_one word || (bytes_eq word (codes "2") || bytes_eq word (codes "3")))

-- a latch with a type and a control has five or six words, the keyword among them
abbrev pub has_type : List (List ℕ) → Bool
has_type words = nat_le 5 (length words)

-- a latch with an initial value, which is its last word, has four or six words
abbrev pub has_init : List (List ℕ) → Bool
has_init words = (length words == 4) || (length words == 6)

abbrev pub is_equals : ℕ → Bool
is_equals b = b == 61

abbrev pub is_empty : List ℕ → Bool
is_empty word = length word == 0

-- a binding has a formal, `=` and an actual
abbrev pub is_binding : List ℕ → Bool
is_binding word =
    list_any is_equals word && (not (is_empty (before_first is_equals word)) && not (is_empty (after_first is_equals word)))
