-- The form of a dump: what each word may be, by what was read before it.
use Rattle.std.specs.Prelude.{ℕ, ◌+◌, ◌-◌, ◌/◌, ◌%◌, ◌==◌, nat_lt, Bool, true, false, not, ◌&&◌, ◌||◌, if◌then◌else◌, List, [], ◌∷◌, length, take, drop, codes, bytes_eq, Option, Some, None, Result, Ok, Err}
use Rattle.lid_base.specs.Numbers.{number_below}
use Rattle.lid_vcd_form.specs.Ids.{id_of, variable_of, token_in_bits, is_token, width_of, ending_of}
use Rattle.lid_vcd_form.specs.declared.form.Section.{Section}
use Rattle.lid_vcd_form.specs.declared.form.Section.TheVariants.{Timescale, Scope, Variable, Upscope, Definitions, Body}
use Rattle.lid_vcd_form.specs.declared.form.Next.{Next}
use Rattle.lid_vcd_form.specs.declared.form.Next.TheVariants.{Before, Note, Inside, Time, Set, Bits}
use Rattle.lid_vcd_form.specs.declared.form.Place.{Place}

-- a place where so many variables were declared
abbrev pub new_place : ℕ → Next → Place
new_place variables next = record { variables = variables; next = next }

-- before the first word
abbrev pub start : Place
start = new_place 0 (Before Timescale)

abbrev pub is_end : List ℕ → Bool
is_end word = bytes_eq word (codes "$end")

-- what begins an optional section
abbrev pub is_note : List ℕ → Bool
is_note word = bytes_eq word (codes "$date") || (bytes_eq word (codes "$version") || bytes_eq word (codes "$comment"))

-- whether these are digits of this number
abbrev pub is_number : ℕ → Option ℕ → Bool
is_number station None = false
is_number station (Some number) = number == station

-- `s` and the number of the station in decimal digits
abbrev pub is_stem : ℕ → List ℕ → Bool
is_stem station [] = false
is_stem station (b ∷ digits) = (b == 115) && is_number station (number_below 4294967296 digits)

-- the name of a variable: its station, and what it is
unfoldable pub is_name : ℕ → List ℕ → Bool
is_name n word =
    bytes_eq (drop (length word - length (ending_of n)) word) (ending_of n) && is_stem (n / 3) (take (length word - length (ending_of n)) word)

abbrev pub only : Bool → ℕ → Next → Option Place
only holds variables next = if holds then Some (new_place variables next) else None

-- the first word of a declaration, or of the section after all of them; a station has three variables, and there are at most
-- 65,536 stations
unfoldable pub begins_variable : ℕ → List ℕ → Option Place
begins_variable variables word =
    if bytes_eq word (codes "$var") then only (nat_lt variables 196608) (variables + 1) (Inside Variable 1)
    else only (bytes_eq word (codes "$upscope") && (variables % 3 == 0)) variables (Inside Upscope 1)

-- the first word of a section
unfoldable pub begins : ℕ → Section → List ℕ → Option Place
begins variables Timescale word = only (bytes_eq word (codes "$timescale")) variables (Inside Timescale 1)
begins variables Scope word = only (bytes_eq word (codes "$scope")) variables (Inside Scope 1)
begins variables Variable word = begins_variable variables word
begins variables Upscope word = only (bytes_eq word (codes "$upscope")) variables (Inside Upscope 1)
begins variables Definitions word = only (bytes_eq word (codes "$enddefinitions")) variables (Inside Definitions 1)
begins variables Body word = only (bytes_eq word (codes "#0")) variables (Time 0)

-- before a section notes may stand
abbrev pub before_section : ℕ → Section → List ℕ → Option Place
before_section variables section word = if is_note word then Some (new_place variables (Note section)) else begins variables section word

-- within a note any words stand up to `$end`
abbrev pub in_note : ℕ → Section → List ℕ → Option Place
in_note variables section word = Some (new_place variables (if is_end word then Before section else Note section))

abbrev pub in_timescale : ℕ → List ℕ → Option Place
in_timescale variables word = Some (new_place variables (if is_end word then Before Scope else Inside Timescale 1))

-- `$scope module lid $end`
unfoldable pub in_scope : ℕ → ℕ → List ℕ → Option Place
in_scope variables i word =
    if i == 1 then only (bytes_eq word (codes "module")) variables (Inside Scope 2)
    else if i == 2 then only (bytes_eq word (codes "lid")) variables (Inside Scope 3)
    else only (is_end word) variables (Before Variable)

-- `$var wire WIDTH ID NAME $end` of the last of these variables
unfoldable pub in_variable : ℕ → ℕ → List ℕ → Option Place
in_variable variables i word =
    if i == 1 then only (bytes_eq word (codes "wire")) variables (Inside Variable 2)
    else if i == 2 then only (bytes_eq word (width_of (variables - 1))) variables (Inside Variable 3)
    else if i == 3 then only (bytes_eq word (id_of (variables - 1))) variables (Inside Variable 4)
    else if i == 4 then only (is_name (variables - 1) word) variables (Inside Variable 5)
    else only (is_end word) variables (Before Variable)

-- the word after so many of a section
abbrev pub in_section : ℕ → Section → ℕ → List ℕ → Option Place
in_section variables Timescale i word = in_timescale variables word
in_section variables Scope i word = in_scope variables i word
in_section variables Variable i word = in_variable variables i word
in_section variables Upscope i word = only (is_end word) variables (Before Definitions)
in_section variables Definitions i word = only (is_end word) variables (Before Body)
in_section variables Body i word = None

-- a time is greater than the one before
abbrev pub later : ℕ → ℕ → Option ℕ → Option Place
later variables at None = None
later variables at (Some time) = only (nat_lt at time) variables (Time time)

-- a bit of a station changes
abbrev pub bit_set : ℕ → ℕ → ℕ → Option ℕ → Option Place
bit_set variables at value None = None
bit_set variables at value (Some n) = only (not (is_token n)) variables (Set at n value)

-- a token changes, of a variable that comes next: there is none without stations
abbrev pub token_read : ℕ → ℕ → Option ℕ → Option Place
token_read variables at None = None
token_read variables at (Some token) = only (nat_lt 0 variables) variables (Bits at token)

-- the variable of a token
abbrev pub token_set : ℕ → ℕ → ℕ → Option ℕ → Option Place
token_set variables at value None = None
token_set variables at value (Some n) = only (is_token n) variables (Set at n value)

-- a change, by its first character and what comes after that
abbrev pub change : ℕ → ℕ → ℕ → List ℕ → Option Place
change variables at mark rest =
    if (mark == 48) || (mark == 49) then bit_set variables at (mark - 48) (variable_of variables rest)
    else if mark == 98 then token_read variables at (token_in_bits rest)
    else None

-- a time or a change after `#at`; after a change a time must come, so that none is left after the last
unfoldable pub in_body : ℕ → ℕ → List ℕ → Option Place
in_body variables at [] = None
in_body variables at (mark ∷ rest) =
    if mark == 35 then later variables at (number_below 4294967296 rest)
    else if nat_lt at 4294967295 then change variables at mark rest
    else None

-- what the next word may be: the place after it, or none where no text of the form goes on by this word
unfoldable pub step : Place → List ℕ → Option Place
step p word = step_from p.next
  where
    step_from : Next → Option Place
    step_from (Before section) = before_section p.variables section word
    step_from (Note section) = in_note p.variables section word
    step_from (Inside section i) = in_section p.variables section i word
    step_from (Time at) = in_body p.variables at word
    step_from (Set at n value) = in_body p.variables at word
    step_from (Bits at value) = token_set p.variables at value (variable_of p.variables word)

-- a text may end after a time
abbrev pub is_time : Next → Bool
is_time (Time at) = true
is_time _ = false

-- the place at the end, or the line of the last word where the text ends too early
abbrev pub ended : ℕ → Place → Result Place ℕ
ended last p = if is_time p.next then Ok p else Err last

-- by a word on this line
abbrev pub going_on : ℕ → Option Place → (Place → Result Place ℕ) → Result Place ℕ
going_on line None more = Err line
going_on line (Some p) more = more p

-- the place at the end of some words that come after a word on line `last`, or the line of the first word by which no text of the
-- form goes on; of the last where they end too early
abbrev pub read_words : ℕ → Place → List (ℕ × List ℕ) → Result Place ℕ
read_words last p [] = ended last p
read_words last p (word ∷ words) = going_on word.0 (step p word.1) (λ q. read_words word.0 q words)
