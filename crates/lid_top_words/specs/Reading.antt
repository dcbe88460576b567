-- How the words are read: as one simple command of `clap`.
use Rattle.std.specs.Prelude.{ℕ, true, List, [], ◌∷◌, map, Option, Some, None, codes}
use Rattle.clap.specs.Lexer.{usize_max}
use Rattle.clap.specs.Matches.{found_of}
use Rattle.clap.specs.Walk.{Rule, Row, rows_of}
use Rattle.clap.specs.Simple.{Shape, App, new_rule, new_app, on_top, with_rule, matches_of}
use Rattle.clap.specs.Kinds.{Kinds}
use Rattle.clap.specs.Faults.{fault_of}
use Rattle.clap.specs.declared.builder.action.ArgAction.TheVariants.{Append, SetTrue}
use Rattle.clap.specs.declared.parser.matches.ArgMatches.{ArgMatches}
use Rattle.lid_top_words.specs.declared.table.TheConstants.{COMMAND, FILES, OPTIONS, TALLY}

-- the reading takes no program's name, and has no help and no version flag
abbrev pub bare : Shape → Shape
bare s = record s { no_binary_name = true; disable_help_flag = true; disable_version_flag = true }

abbrev pub bare_app : App
bare_app = on_top bare (new_app (codes "lid"))

-- an option with one value
abbrev pub option_rule : List ℕ → Rule
option_rule name = record (new_rule name) { long = Some name }

-- a flag
abbrev pub flag_rule : List ℕ → Rule
flag_rule name = record (new_rule name) { long = Some name; action = Some SetTrue }

-- the place of the command's word
abbrev pub command_rule : Rule
command_rule = new_rule COMMAND.now

-- the last place: any number of files
abbrev pub files_rule : Rule
files_rule = record (new_rule FILES.now) {
  action = Some Append;
  range = Some (record { start_inclusive = 0; end_inclusive = usize_max });
}

abbrev pub with_options : App → List (List ℕ) → App
with_options app [] = app
with_options app (name ∷ names) = with_options (with_rule app (option_rule name)) names

-- the names of all options
abbrev pub option_names : List (List ℕ)
option_names = map (λ o. o.now) OPTIONS

-- the one simple command
unfoldable pub lid_app : App
lid_app = with_rule (with_options (with_rule (with_rule bare_app command_rule) files_rule) option_names) (flag_rule TALLY.now)

-- the matches of a reading, as `clap` lists them
unfoldable pub matches_in : ArgMatches → List Row
matches_in matches = rows_of (found_of matches)

abbrev pub matches_unless : Kinds → List Row → Option (List Row)
matches_unless [] found = Some found
matches_unless (kind ∷ kinds) found = None

-- what `clap` finds in the words; nothing where it finds a fault
unfoldable pub given_in : List (List ℕ) → Option (List Row)
given_in words = matches_unless (fault_of lid_app words) (matches_of lid_app words)
