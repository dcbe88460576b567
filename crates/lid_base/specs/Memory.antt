-- A shelf and a sink that are kept in memory.
use Rattle.std.specs.Prelude.{ℕ, ◌+◌, ◌-◌, ◌==◌, min, nat_lt, Bool, ◌&&◌, ◌||◌, if◌then◌else◌, List, [], ◌∷◌, ◌++◌, length, Option, Some, None, is_some, is_none}
use Rattle.std.specs.List.{list_any}
use Rattle.std.specs.Str.{bytes_eq}
use Rattle.lid_base.specs.declared.memory.File.{File}

-- one more, or the last value of a u64
abbrev pub one_more : ℕ → ℕ
one_more n = min (n + 1) 18446744073709551615

-- one more where the test holds
abbrev pub raised_if : Bool → ℕ → ℕ
raised_if test n = if test then one_more n else n

abbrev pub is_listed : List ℕ → ℕ → Bool
is_listed numbers n = list_any (λ m. m == n) numbers

-- the bytes of the first file with the name
abbrev pub bytes_held : List File → List ℕ → Option (List ℕ)
bytes_held [] name = None
bytes_held (file ∷ files) name = if bytes_eq file.name name then Some file.bytes else bytes_held files name

-- the files, the numbers of the calls that fail, how many calls were made, and how many fetches of
-- names that are held and of names that are missing failed
pub record ShelfState : Type 0 where
  pub files : List File
  pub failing : List ℕ
  pub calls : ℕ
  pub held_faults : ℕ
  pub missing_faults : ℕ

-- the count of a name's faults
abbrev pub fault_count : ShelfState → List ℕ → ℕ
fault_count shelf name = if is_some (bytes_held shelf.files name) then shelf.held_faults else shelf.missing_faults

-- whether the next call is one of those that fail
abbrev pub is_failing_call : ShelfState → Bool
is_failing_call shelf = is_listed shelf.failing (one_more shelf.calls)

-- whether the next call fails where it fetches the name
abbrev pub fetch_fails : ShelfState → List ℕ → Bool
fetch_fails shelf name = is_failing_call shelf || is_none (bytes_held shelf.files name)

-- the shelf after a fetch of the name
abbrev pub after_fetch : ShelfState → List ℕ → ShelfState
after_fetch shelf name = record {
  files = shelf.files;
  failing = shelf.failing;
  calls = one_more shelf.calls;
  held_faults = raised_if (is_some (bytes_held shelf.files name) && is_failing_call shelf) shelf.held_faults;
  missing_faults = raised_if (is_none (bytes_held shelf.files name)) shelf.missing_faults;
}

-- the bytes written, how many more fit, the numbers of the calls that fail, how many calls were
-- made, and how many of them failed
pub record SinkState : Type 0 where
  pub bytes : List ℕ
  pub room : ℕ
  pub failing : List ℕ
  pub calls : ℕ
  pub faults : ℕ

-- whether the next call fails where it writes the piece
abbrev pub write_fails : SinkState → List ℕ → Bool
write_fails sink piece = is_listed sink.failing (one_more sink.calls) || nat_lt sink.room (length piece)

-- the sink after a write of the piece
abbrev pub after_write : SinkState → List ℕ → SinkState
after_write sink piece = record {
  bytes = if write_fails sink piece then sink.bytes else sink.bytes ++ piece;
  room = if write_fails sink piece then sink.room else sink.room - length piece;
  failing = sink.failing;
  calls = one_more sink.calls;
  faults = raised_if (write_fails sink piece) sink.faults;
}
