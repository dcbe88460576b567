-- The table of the commands: what may stand after each command's word, and in which ranges numbers lie.
use Rattle.std.specs.Prelude.{ℕ, Bool, true, false, List, [], ◌∷◌, codes}
use Rattle.lid_top_words.specs.declared.table.Command.{Command}
use Rattle.lid_top_words.specs.declared.table.Command.TheVariants.{Check, Strict, Clock, Walk, Free, Rate, Verify, Place, Gen, Wave, Unwave, Emit, Slack, Size}

-- a row of the table
pub record Form : Type 0 where
  pub command : Command
  pub word : List ℕ
  -- what stands in the places after the word
  pub places : List (List ℕ)
  -- the options that must stand
  pub needed : List (List ℕ)
  -- the further options that may stand
  pub further : List (List ℕ)
  -- whether the flag may stand
  pub has_tally : Bool

abbrev pub form : Command → List ℕ → List (List ℕ) → List (List ℕ) → List (List ℕ) → Bool → Form
form command word places needed further has_tally = record {
  command = command;
  word = word;
  places = places;
  needed = needed;
  further = further;
  has_tally = has_tally;
}

-- a netlist alone
abbrev pub of_net : List (List ℕ)
of_net = codes "NET" ∷ []

-- a netlist and rows
abbrev pub of_rows : List (List ℕ)
of_rows = codes "NET" ∷ codes "VEC" ∷ []

abbrev pub rooted : List (List ℕ)
rooted = codes "root" ∷ []

abbrev pub stations_options : List (List ℕ)
stations_options = codes "root" ∷ codes "stations" ∷ []

abbrev pub table : List Form
table =
    form Check (codes "check") of_net [] rooted false
    ∷ form Strict (codes "strict") of_rows [] rooted false
    ∷ form Clock (codes "clock") of_rows [] (codes "root" ∷ codes "stations" ∷ codes "stalls" ∷ codes "workers" ∷ codes "trace" ∷ []) false
    ∷ form Walk (codes "walk") of_rows (codes "schedule" ∷ []) stations_options false
    ∷ form Free (codes "free") of_rows [] (codes "root" ∷ codes "stations" ∷ codes "workers" ∷ codes "rounds" ∷ []) true
    ∷ form Rate (codes "rate") of_net [] stations_options false
    ∷ form Verify (codes "verify") (codes "NET" ∷ codes "CERT" ∷ []) [] stations_options false
    ∷ form Place (codes "place") of_net (codes "wires" ∷ codes "reach" ∷ []) rooted false
    ∷ form Gen (codes "gen") (codes "SEED" ∷ []) (codes "shells" ∷ []) (codes "run" ∷ []) false
    ∷ form Wave (codes "wave") of_rows (codes "trace" ∷ []) stations_options false
    ∷ form Unwave (codes "unwave") (codes "FILE" ∷ []) [] [] false
    ∷ form Emit (codes "emit") of_net [] stations_options false
    ∷ form Slack (codes "slack") of_net [] stations_options false
    ∷ form Size (codes "size") of_net [] stations_options false
    ∷ []

-- an option or a place that is a number, with the least and the greatest number that may stand there
pub record Range : Type 0 where
  pub word : List ℕ
  pub least : ℕ
  pub greatest : ℕ

abbrev pub range : List ℕ → ℕ → ℕ → Range
range word least greatest = record { word = word; least = least; greatest = greatest }

abbrev pub ranges : List Range
ranges =
    range (codes "workers") 1 64
    ∷ range (codes "rounds") 0 1000000
    ∷ range (codes "trace") 1 1048576
    ∷ range (codes "reach") 1 9223372036854775807
    ∷ range (codes "shells") 0 4294967295
    ∷ range (codes "run") 1 1000000
    ∷ range (codes "SEED") 0 18446744073709551615
    ∷ []
