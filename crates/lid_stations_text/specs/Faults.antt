-- What is at fault in a line of stations or wires.
use Rattle.std.specs.Prelude.{ℕ, ◌+◌, ◌-◌, ◌==◌, nat_lt, Bool, false, not, ◌&&◌, if◌then◌else◌, List, [], ◌∷◌, codes, bytes_eq, Option, Some, None, is_some}
use Rattle.std.specs.List.{list_any}
use Rattle.std.specs.Option.{option_map_or}
use Rattle.lid_base.specs.Numbers.{number}
use Rattle.lid_base.specs.Words.{word_at}
use Rattle.lid_base.specs.declared.line.Line.{Line}
use Rattle.lid_stations.specs.Placements.{Links}
use Rattle.lid_system.specs.declared.Channel.{Channel}
use Rattle.lid_stations_text.specs.declared.form.Form.{Form}
use Rattle.lid_stations_text.specs.declared.fault.PlaceFault.{PlaceFault}
use Rattle.lid_stations_text.specs.declared.fault.PlaceFault.TheVariants.{Word, NoChannel, Twice, ZeroLength, TooMany, Capacity}
use Rattle.lid_stations_text.specs.Forms.{has_form, relays_of, is_empty_wire, has_capacities}

-- the node of a shell by its number, where there are so many nodes: the shells stand between the first and the last
abbrev pub shell_node : ℕ → Option ℕ → Option ℕ
shell_node count None = None
shell_node count (Some k) = if nat_lt k (count - 2) then Some (k + 1) else None

abbrev pub shell_by : ℕ → List ℕ → Option ℕ
shell_by count [] = None
shell_by count (b ∷ bs) = if b == 117 then shell_node count (number bs) else None

-- the node that a word names: `in` the first, `out` the last, and `u` and a number a shell
abbrev pub node_by : ℕ → List ℕ → Option ℕ
node_by count word =
    if bytes_eq word (codes "in") then Some 0
    else if bytes_eq word (codes "out") then Some (count - 1)
    else shell_by count word

-- whether something is there and is this number
abbrev pub is_number : Option ℕ → ℕ → Bool
is_number found n = option_map_or (λ m. m == n) found false

-- whether a line names a channel: by the nodes from which and to which it leads, and its piece
abbrev pub names_channel : Links → List (List ℕ) → Channel → Bool
names_channel l words c =
    is_number (node_by l.nodes (word_at words 0)) c.from
    && (is_number (node_by l.nodes (word_at words 1)) c.to && is_number (number (word_at words 2)) c.piece)

-- the place of the first that passes a test
abbrev pub place_where : {A : Type 0} → (A → Bool) → ℕ → List A → Option ℕ
place_where test i [] = None
place_where test i (x ∷ xs) = if test x then Some i else place_where test (i + 1) xs

-- the channel that a line names
abbrev pub channel_of : Links → List (List ℕ) → Option ℕ
channel_of l words = place_where (names_channel l words) 0 l.channels

-- whether a line names channel c
abbrev pub is_of : Links → ℕ → Line → Bool
is_of l c line = is_number (channel_of l line.words) c

-- whether a channel stands on some lines
abbrev pub stands_on : Links → List Line → Option ℕ → Bool
stands_on l lines None = false
stands_on l lines (Some c) = list_any (is_of l c) lines

-- the first fault of those whose condition holds
abbrev pub first_fault : List (Bool × PlaceFault) → Option PlaceFault
first_fault [] = None
first_fault (x ∷ xs) = if x.0 then Some x.1 else first_fault xs

abbrev pub or_else : Option PlaceFault → Option PlaceFault → Option PlaceFault
or_else None later = later
or_else (Some fault) later = Some fault

-- what is at fault in the form of a line after others, or in the channel that it names
abbrev pub channel_fault : Links → Form → List Line → Line → Option PlaceFault
channel_fault l form earlier line = first_fault (
    (not (has_form form line.words), Word line.number)
    ∷ (not (is_some (channel_of l line.words)), NoChannel line.number)
    ∷ (stands_on l earlier (channel_of l line.words), Twice line.number)
    ∷ [])

-- what is at fault in what a line says of its channel
abbrev pub amount_fault : Form → Line → Option PlaceFault
amount_fault form line = first_fault (
    (is_empty_wire form line.words, ZeroLength line.number)
    ∷ (nat_lt 64 (relays_of form line.words), TooMany line.number)
    ∷ (not (has_capacities line.words), Capacity line.number)
    ∷ [])

-- what is at fault in a line after others
abbrev pub line_fault : Links → Form → List Line → Line → Option PlaceFault
line_fault l form earlier line = or_else (channel_fault l form earlier line) (amount_fault form line)
