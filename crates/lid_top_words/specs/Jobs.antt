-- The job that the words ask for.
use Rattle.std.specs.Prelude.{ℕ, ⊤, ◌≤◌, ◌==◌, nat_le, Bool, true, false, not, ◌&&◌, ◌||◌, if◌then◌else◌, List, [], ◌∷◌, length, map, slice_index_or, find, Option, Some, None, IfSome, is_some, unwrap_or, option_and_then, codes}
use Rattle.std.specs.Option.{option_map_or}
use Rattle.std.specs.Borrow.{Bor}
use Rattle.std.specs.List.{list_all, list_any}
use Rattle.std.specs.Str.{bytes_eq}
use Rattle.clap.specs.Walk.{Row, first_of, all_of}
use Rattle.lid_base.specs.Numbers.{number}
use Rattle.lid_top_words.specs.declared.table.TheConstants.{COMMAND, FILES, TALLY, ROOT, STATIONS, STALLS, SCHEDULE, WIRES, WORKERS, ROUNDS, REACH, TRACE, SHELLS, RUN}
use Rattle.lid_top_words.specs.declared.table.Command.{Command}
use Rattle.lid_top_words.specs.declared.table.Command.TheVariants as command
use Rattle.lid_top_words.specs.declared.job.Job.{Job}
use Rattle.lid_top_words.specs.declared.job.Job.TheVariants.{Check, Clock, Emit, Free, Gen, Place, Rate, Size, Slack, Strict, Unwave, Verify, Walk, Wave}
use Rattle.lid_top_words.specs.Table.{Form, form, table, Range, range, ranges}
use Rattle.lid_top_words.specs.Reading.{option_names, given_in}

-- a row, where a word and a list of words are seen as these functions say
abbrev pub form_by : {W L : Type 0} → (W → List ℕ) → (L → List (List ℕ)) → Command × W × L × L × L × Bool → Form
form_by word words row = form row.0 (word row.1) (words row.2) (words row.3) (words row.4) row.5

-- a row of the code's table
abbrev pub form_shown : Command × Bor (List ℕ) × Bor (List (Bor (List ℕ))) × Bor (List (Bor (List ℕ))) × Bor (List (Bor (List ℕ))) × Bool → Form
form_shown = form_by (λ w. w.now) (λ ws. map (λ w. w.now) ws.now)

-- a row of the code's ranges
abbrev pub range_shown : Bor (List ℕ) × ℕ × ℕ → Range
range_shown row = range row.0.now row.1 row.2

-- whether an option stands in the words
unfoldable pub is_given : List Row → List ℕ → Bool
is_given found name = is_some (first_of name found)

-- whether the flag stands in the words
unfoldable pub is_tallied : List Row → Bool
is_tallied found = bytes_eq (unwrap_or (first_of TALLY.now found) []) (codes "true")

-- the files in their order
unfoldable pub files_in : List Row → List (List ℕ)
files_in found = unwrap_or (all_of FILES.now found) []

-- the value of an option that stands in the words
unfoldable pub name_in : List ℕ → List Row → List ℕ
name_in option found = unwrap_or (first_of option found) []

unfoldable pub file_at : ℕ → List Row → List ℕ
file_at i found = slice_index_or (files_in found) i []

abbrev pub is_one_of : List ℕ → List (List ℕ) → Bool
is_one_of name names = list_any (λ n. bytes_eq n name) names

-- the option is one of those that must or may stand, where it stands
unfoldable pub is_allowed : List (List ℕ) → List (List ℕ) → List Row → List ℕ → Bool
is_allowed needed further found name = not (is_given found name) || (is_one_of name needed || is_one_of name further)

-- only these options stand in the words
unfoldable pub has_only : List (List ℕ) → List (List ℕ) → List Row → Bool
has_only needed further found = list_all (is_allowed needed further found) option_names

-- these options stand in the words
unfoldable pub has_each : List (List ℕ) → List Row → Bool
has_each options found = list_all (is_given found) options

-- the number lies in the range
unfoldable pub is_within : ℕ → ℕ → List ℕ → Bool
is_within least greatest text = option_map_or (λ n. nat_le least n && nat_le n greatest) (number text) false

-- the range among these that a word names
abbrev pub range_among : List Range → List ℕ → Option Range
range_among rs word = find (λ range. bytes_eq range.word word) rs

-- the text may stand at this option or place: where that is a number, it is a number word in its range
unfoldable pub fits : List ℕ → List ℕ → Bool
fits name text = option_map_or (λ range. is_within range.least range.greatest text) (range_among ranges name) true

-- the option has a value that may stand there, where it stands in the words
unfoldable pub option_fits : List Row → List ℕ → Bool
option_fits found name = option_map_or (fits name) (first_of name found) true

-- what stands in each place may stand there
abbrev pub files_fit : List (List ℕ) → List (List ℕ) → Bool
files_fit [] places = true
files_fit (file ∷ files) [] = true
files_fit (file ∷ files) (place ∷ places) = fits place file && files_fit files places

-- the stalls of a run and its workers do not stand together
unfoldable pub has_both : List Row → Bool
has_both found = is_given found (codes "stalls") && is_given found (codes "workers")

-- the words have the form
unfoldable pub has_form : Form → List Row → Bool
has_form form found =
    length (files_in found) == length form.places
    && (files_fit (files_in found) form.places
    && (has_each form.needed found
    && (has_only form.needed form.further found
    && (list_all (option_fits found) option_names
    && (not (has_both found)
    && (form.has_tally || not (is_tallied found)))))))

-- the name of the root, where it is given
abbrev pub root_in : List Row → Option (List ℕ)
root_in found = first_of ROOT.now found

-- the job of `check`
abbrev pub check_job : List Row → Option Job
check_job found = Some (Check (file_at 0 found) (root_in found))

-- the number of an option, where it stands in the words
unfoldable pub number_if : List ℕ → List Row → Option ℕ
number_if option found = option_and_then number (first_of option found)

-- the number of an option, and another one where it does not stand in the words
unfoldable pub number_or : ℕ → List ℕ → List Row → ℕ
number_or other option found = unwrap_or (number_if option found) other

-- the job of `clock`
abbrev pub clock_job : List Row → Option Job
clock_job found = Some (Clock (file_at 0 found) (file_at 1 found) (first_of STATIONS.now found) (first_of STALLS.now found) (number_or 1 WORKERS.now found) (number_if TRACE.now found) (root_in found))

-- the job of `emit`
abbrev pub emit_job : List Row → Option Job
emit_job found = Some (Emit (file_at 0 found) (first_of STATIONS.now found) (root_in found))

-- the job of `free`
abbrev pub free_job : List Row → Option Job
free_job found = Some (Free (file_at 0 found) (file_at 1 found) (first_of STATIONS.now found) (number_or 1 WORKERS.now found) (number_or 1000 ROUNDS.now found) (is_tallied found) (root_in found))

-- the seed that stands in the first place
unfoldable pub seed_in : List Row → ℕ
seed_in found = unwrap_or (number (file_at 0 found)) 0

-- the job of `gen`
abbrev pub gen_job : List Row → Option Job
gen_job found = Some (Gen (seed_in found) (number_or 0 SHELLS.now found) (number_if RUN.now found))

-- the job of `place`
abbrev pub place_job : List Row → Option Job
place_job found = Some (Place (file_at 0 found) (name_in WIRES.now found) (number_or 1 REACH.now found) (root_in found))

-- the job of `rate`
abbrev pub rate_job : List Row → Option Job
rate_job found = Some (Rate (file_at 0 found) (first_of STATIONS.now found) (root_in found))

-- the job of `size`
abbrev pub size_job : List Row → Option Job
size_job found = Some (Size (file_at 0 found) (first_of STATIONS.now found) (root_in found))

-- the job of `slack`
abbrev pub slack_job : List Row → Option Job
slack_job found = Some (Slack (file_at 0 found) (first_of STATIONS.now found) (root_in found))

-- the job of `strict`
abbrev pub strict_job : List Row → Option Job
strict_job found = Some (Strict (file_at 0 found) (file_at 1 found) (root_in found))

-- the job of `unwave`
abbrev pub unwave_job : List Row → Option Job
unwave_job found = Some (Unwave (file_at 0 found))

-- the job of `verify`
abbrev pub verify_job : List Row → Option Job
verify_job found = Some (Verify (file_at 0 found) (file_at 1 found) (first_of STATIONS.now found) (root_in found))

-- the job of `walk`
abbrev pub walk_job : List Row → Option Job
walk_job found = Some (Walk (file_at 0 found) (file_at 1 found) (name_in SCHEDULE.now found) (first_of STATIONS.now found) (root_in found))

-- the job of `wave`
abbrev pub wave_job : List Row → Option Job
wave_job found = Some (Wave (file_at 0 found) (file_at 1 found) (first_of STATIONS.now found) (number_or 1 TRACE.now found) (root_in found))

-- the job of a command whose form the words have
unfoldable pub job_made : Command → List Row → Option Job
job_made command.Check found = check_job found
job_made command.Strict found = strict_job found
job_made command.Clock found = clock_job found
job_made command.Rate found = rate_job found
job_made command.Verify found = verify_job found
job_made command.Place found = place_job found
job_made command.Free found = free_job found
job_made command.Gen found = gen_job found
job_made command.Walk found = walk_job found
job_made command.Wave found = wave_job found
job_made command.Unwave found = unwave_job found
job_made command.Emit found = emit_job found
job_made command.Slack found = slack_job found
job_made command.Size found = size_job found

-- the job of a form, where the words have it
unfoldable pub job_formed : List Row → Form → Option Job
job_formed found form = if has_form form found then job_made form.command found else None

-- the form among these that a word names
abbrev pub form_among : List Form → List ℕ → Option Form
form_among fs word = find (λ form. bytes_eq form.word word) fs

-- the form that the command's word names
unfoldable pub form_in : List Row → Option Form
form_in found = option_and_then (form_among table) (first_of COMMAND.now found)

-- the job that stands in what `clap` found
unfoldable pub job_given : List Row → Option Job
job_given found = option_and_then (job_formed found) (form_in found)

-- the job that the words ask for; none where they are no job
unfoldable pub job_of : List (List ℕ) → Option Job
job_of words = option_and_then job_given (given_in words)

-- a trace has some cycles and not too many
abbrev pub IsTraceLong : ℕ → Type 0
IsTraceLong cycles = (1 ≤ cycles) × (cycles ≤ 1048576)

-- there are some workers and not too many
abbrev pub AreFewWorkers : ℕ → Type 0
AreFewWorkers workers = (1 ≤ workers) × (workers ≤ 64)

-- numbers are in their ranges
abbrev pub IsJobInRange : Job → Type 0
IsJobInRange (Clock net vec stations stalls workers trace root) = AreFewWorkers workers × IfSome trace IsTraceLong
IsJobInRange (Free net vec stations workers rounds tally root) = AreFewWorkers workers × (rounds ≤ 1000000)
IsJobInRange (Gen seed shells run) = (shells ≤ 4294967295) × IfSome run (λ rows. (1 ≤ rows) × (rows ≤ 1000000))
IsJobInRange (Place net wires reach root) = 1 ≤ reach
IsJobInRange (Wave net vec stations trace root) = IsTraceLong trace
IsJobInRange job = ⊤
