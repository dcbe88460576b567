-- The lines of stations and wires: which form each has, which channel it names, and what it says of it.
use Rattle.std.specs.Prelude.{ℕ, ⊤, ◌≤◌, ◌+◌, ◌-◌, ◌/◌, ◌%◌, ◌^◌, ◌==◌, min, nat_le, Bool, false, ◌&&◌, ◌||◌, if◌then◌else◌, List, [], ◌∷◌, length, drop, map, replicate, codes, bytes_eq, Option, Some, None, is_some}
use Rattle.std.specs.List.{list_all}
use Rattle.lid_base.specs.Numbers.{number, value_below}
use Rattle.lid_base.specs.Words.{word_at}
use Rattle.lid_stations_text.specs.declared.form.Kind.{Kind}
use Rattle.lid_stations_text.specs.declared.form.Kind.TheVariants as kind
use Rattle.lid_stations_text.specs.declared.form.Form.{Form}
use Rattle.lid_stations_text.specs.declared.form.Form.TheVariants.{Relays, Capacities, Wires}

-- wires have a positive reach
abbrev pub IsKind : Kind → Type 0
IsKind kind.Stations = ⊤
IsKind (kind.Wires reach) = 1 ≤ reach

abbrev pub IsForm : Form → Type 0
IsForm Relays = ⊤
IsForm Capacities = ⊤
IsForm (Wires reach) = 1 ≤ reach

-- a line of these two words
abbrev pub is_header : List ℕ → List ℕ → List (List ℕ) → Bool
is_header name version words = (length words == 2) && (bytes_eq (word_at words 0) name && bytes_eq (word_at words 1) version)

-- the form of the lines after the header of stations, `lid-stations 1` or `lid-stations 2`
abbrev pub stations_form : List (List ℕ) → Option Form
stations_form words =
    if is_header (codes "lid-stations") (codes "1") words then Some Relays
    else if is_header (codes "lid-stations") (codes "2") words then Some Capacities
    else None

-- the form of the lines after a header: that of wires is `lid-wires 1`
abbrev pub form_by : Kind → List (List ℕ) → Option Form
form_by kind.Stations words = stations_form words
form_by (kind.Wires reach) words = if is_header (codes "lid-wires") (codes "1") words then Some (Wires reach) else None

-- a word `u` and a number word
abbrev pub is_shell_word : List ℕ → Bool
is_shell_word [] = false
is_shell_word (b ∷ bs) = (b == 117) && is_some (number bs)

-- a word that has the form of a node's name
abbrev pub is_node_word : List ℕ → Bool
is_node_word word = bytes_eq word (codes "in") || (bytes_eq word (codes "out") || is_shell_word word)

abbrev pub is_number_word : List ℕ → Bool
is_number_word word = is_some (number word)

-- two names of nodes and two number words
abbrev pub begins_well : List (List ℕ) → Bool
begins_well words =
    is_node_word (word_at words 0) && (is_node_word (word_at words 1) && (is_number_word (word_at words 2) && is_number_word (word_at words 3)))

-- how many relay stations, or how long: the fourth word
abbrev pub amount : List (List ℕ) → ℕ
amount words = value_below (2 ^ 64) (word_at words 3)

-- as many words as the form asks for: a line of capacities has one more of them than relay stations
abbrev pub has_length : Form → List (List ℕ) → Bool
has_length Relays words = length words == 4
has_length Capacities words = nat_le 5 (length words) && (length words - 5 == amount words)
has_length (Wires reach) words = length words == 4

-- whether a line has the form that is due
abbrev pub has_form : Form → List (List ℕ) → Bool
has_form form words = begins_well words && (has_length form words && list_all is_number_word (drop 4 words))

-- the relay stations of a wire: one for each length of so much, but for the last, which ends at the reader
abbrev pub relays_along : ℕ → ℕ → ℕ
relays_along reach long = long / reach + min 1 (long % reach) - 1

-- the relay stations that a line asks for
abbrev pub relays_of : Form → List (List ℕ) → ℕ
relays_of Relays words = amount words
relays_of Capacities words = amount words
relays_of (Wires reach) words = relays_along reach (amount words)

-- the capacities that a line names
abbrev pub named_caps : List (List ℕ) → List ℕ
named_caps words = map (value_below (2 ^ 64)) (drop 4 words)

-- the capacities that a line gives: 2 for each station, where it names none
abbrev pub caps_of : Form → List (List ℕ) → List ℕ
caps_of Relays words = replicate (relays_of Relays words + 1) 2
caps_of Capacities words = named_caps words
caps_of (Wires reach) words = replicate (relays_of (Wires reach) words + 1) 2

-- a wire without length
abbrev pub is_empty_wire : Form → List (List ℕ) → Bool
is_empty_wire Relays words = false
is_empty_wire Capacities words = false
is_empty_wire (Wires reach) words = amount words == 0

-- a capacity in 2 to 16
abbrev pub is_capacity_word : List ℕ → Bool
is_capacity_word word = nat_le 2 (value_below (2 ^ 64) word) && nat_le (value_below (2 ^ 64) word) 16

-- whether each capacity that a line names is one
abbrev pub has_capacities : List (List ℕ) → Bool
has_capacities words = list_all is_capacity_word (drop 4 words)
