-- Start tokens: with which token each station starts, if with any.
use Rattle.std.specs.Prelude.{ℕ, ◌==◌, if◌then◌else◌, List, Option, Some, None}
use Rattle.lid_base.specs.Each.{from_each}
use Rattle.lid_walk_machine.specs.Plans.{Plan, stations_of, start_of}

-- a station that starts with a token starts with that of the first row. Without rows none starts with one
abbrev pub first_token : Plan → ℕ → Option ℕ
first_token m station = if start_of m station == 1 then Some (m.token station 0) else None

-- those of all stations, in order
abbrev pub first_tokens : Plan → List (Option ℕ)
first_tokens m = from_each (first_token m) 0 (stations_of m)
