-- What a station shows as a cycle begins.
use Rattle.std.specs.Prelude.{ℕ, ◌-◌, ◌==◌, nat_lt, if◌then◌else◌}
use Rattle.lid_base.specs.declared.runs.Shown.{Shown}
use Rattle.lid_graph.specs.Firings.{Counts}
use Rattle.lid_stations.specs.declared.placement.Placement.{Placement}
use Rattle.lid_stations.specs.Placements.{Links}
use Rattle.lid_stations.specs.Stations.{capacity}
use Rattle.lid_shell_laws.specs.Runs.{in_count, out_count}

-- a station of this capacity, in which so many tokens were put and from which so many were taken, where this
-- is the token of a number
abbrev pub shown_as : ℕ → ℕ → ℕ → (ℕ → ℕ) → Shown
shown_as cap put taken token = record {
  valid = nat_lt taken put;
  stop = put - taken == cap;
  token = if nat_lt taken put then token taken else 0;
}

-- a station of a placement in a run of so many rows, where actors have fired so often
abbrev pub shown_at : Links → Placement → ℕ → Counts → ℕ → (ℕ → ℕ) → Shown
shown_at l p rows counts station token = shown_as (capacity p station) (in_count l p rows counts station) (out_count l p counts station) token
