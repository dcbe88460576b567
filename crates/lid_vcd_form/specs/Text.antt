-- The dump that is written of a trace.
use Rattle.std.specs.Prelude.{ℕ, zero, suc, ◌+◌, ◌*◌, ◌/◌, ◌==◌, Bool, true, false, not, ◌||◌, if◌then◌else◌, List, [], ◌∷◌, ◌++◌, take, drop, codes}
use Rattle.std.specs.Fmt.{decimal}
use Rattle.lid_base.specs.declared.runs.Shown.{Shown}
use Rattle.lid_base_lines.specs.Texts.{Words, lines_text}
use Rattle.lid_texts_runs.specs.declared.trace.Trace.{Trace}
use Rattle.lid_vcd_form.specs.Ids.{id_of, binary, width_of, ending_of}

-- the declaration of a variable
unfoldable pub declaration : ℕ → Words
declaration n = codes "$var" ∷ codes "wire" ∷ width_of n ∷ id_of n ∷ (codes "s" ++ decimal (n / 3) ++ ending_of n) ∷ codes "$end" ∷ []

-- the declarations of so many variables, from the n-th on
abbrev pub declarations : ℕ → ℕ → List Words
declarations n zero = []
declarations n (suc left) = declaration n ∷ declarations (n + 1) left

abbrev pub timescale_words : Words
timescale_words = codes "$timescale" ∷ codes "1" ∷ codes "ns" ∷ codes "$end" ∷ []

abbrev pub scope_words : Words
scope_words = codes "$scope" ∷ codes "module" ∷ codes "lid" ∷ codes "$end" ∷ []

abbrev pub upscope_words : Words
upscope_words = codes "$upscope" ∷ codes "$end" ∷ []

abbrev pub definitions_words : Words
definitions_words = codes "$enddefinitions" ∷ codes "$end" ∷ []

abbrev pub time_words : ℕ → Words
time_words at = (35 ∷ decimal at) ∷ []

-- the lines before the body
unfoldable pub head_lines : ℕ → List Words
head_lines variables = timescale_words ∷ scope_words ∷ (declarations 0 variables ++ upscope_words ∷ definitions_words ∷ [])

-- a bit that a variable has from now on
abbrev pub bit_words : ℕ → Bool → Words
bit_words n bit = ((if bit then 49 else 48) ∷ id_of n) ∷ []

abbrev pub token_words : ℕ → ℕ → Words
token_words n token = (98 ∷ binary token) ∷ id_of n ∷ []

-- the three variables of a station, of which n is the first
abbrev pub cell_lines : ℕ → Shown → List Words
cell_lines n cell = bit_words n cell.valid ∷ bit_words (n + 1) cell.stop ∷ token_words (n + 2) cell.token ∷ []

-- all variables from n on
abbrev pub shown_lines : ℕ → List Shown → List Words
shown_lines n [] = []
shown_lines n (cell ∷ cells) = cell_lines n cell ++ shown_lines (n + 3) cells

abbrev pub bit_change : ℕ → Bool → Bool → List Words
bit_change n true true = []
bit_change n false false = []
bit_change n _ bit = bit_words n bit ∷ []

abbrev pub token_change : ℕ → ℕ → ℕ → List Words
token_change n old new = if old == new then [] else token_words n new ∷ []

-- the variables of a station that changed, of which n is the first
abbrev pub cell_changes : ℕ → Shown → Shown → List Words
cell_changes n old new =
    bit_change n old.valid new.valid ++ bit_change (n + 1) old.stop new.stop ++ token_change (n + 2) old.token new.token

-- the variables from n on that changed from one cycle to the next
abbrev pub changes : ℕ → List Shown → List Shown → List Words
changes n (old ∷ olds) (new ∷ news) = cell_changes n old new ++ changes (n + 3) olds news
changes n _ _ = []

abbrev pub bit_differs : Bool → Bool → Bool
bit_differs true true = false
bit_differs false false = false
bit_differs _ _ = true

-- whether a station changed
abbrev pub differs : Shown → Shown → Bool
differs old new = bit_differs old.valid new.valid || (bit_differs old.stop new.stop || not (old.token == new.token))

-- whether one of the stations changed
abbrev pub any_differs : List Shown → List Shown → Bool
any_differs (old ∷ olds) (new ∷ news) = differs old new || any_differs olds news
any_differs _ _ = false

-- a cycle after the first: nothing where no station changed
abbrev pub cycle_lines : ℕ → List Shown → List Shown → List Words
cycle_lines at olds news = if any_differs olds news then time_words at ∷ changes 0 olds news else []

-- so many cycles from the k-th on, where this was shown in the cycle before; at the end how many cycles there are
abbrev pub later_lines : ℕ → ℕ → ℕ → List Shown → List Shown → List Words
later_lines stations k zero before cells = time_words k ∷ []
later_lines stations k (suc left) before cells =
    cycle_lines k before (take stations cells) ++ later_lines stations (k + 1) left (take stations cells) (drop stations cells)

-- the lines of the body
abbrev pub body_lines : ℕ → ℕ → List Shown → List Words
body_lines stations zero cells = time_words 0 ∷ []
body_lines stations (suc left) cells =
    time_words 0 ∷ (shown_lines 0 (take stations cells) ++ later_lines stations 1 left (take stations cells) (drop stations cells))

-- the text of a trace
unfoldable pub wave_text : Trace → List ℕ
wave_text t = lines_text (head_lines (3 * t.stations) ++ body_lines t.stations t.cycles t.cells)
