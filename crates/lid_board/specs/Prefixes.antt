-- What passed the two ends of a station, whoever holds them: the one list is a prefix of the other, and
-- that of the stream.
use Rattle.std.specs.Prelude.{◌≡◌, ℕ, ◌+◌, ◌<◌, ◌≤◌, List, length, take, Some}
use mathlib.Core.Option.{some}
use lib.ListN.{get_elem?}
use Rattle.atomic_table.specs.Table.{State}
use Rattle.lid_base.specs.Lists.{Extends}
use Rattle.lid_station.specs.Boards.{fill, drain}
use Rattle.lid_board.specs.Relation.{Related, capacity_of, stream_of}
use Rattle.lid_board.specs.Views.{EndTable, at}
use Rattle.lid_board.specs.declared.view.EndFacts.{EndFacts}
use Rattle.lid_board.specs.declared.view.HandView.{HandView}

-- the tokens that passed an end: the first of the stream, as many as its number says
abbrev pub passed_list : EndFacts → List ℕ
passed_list h = take h.passed h.stream

-- of two lists and the stream of a station: those that left it are a prefix of those that entered it,
-- these a prefix of the stream, and they are at most the capacity more
pub record Prefix (cap : ℕ) (entered left stream : List ℕ) : Type 0 where
  pub left_entered : Extends left entered
  pub entered_stream : Extends entered stream
  pub room : length entered ≤ length left + cap

-- this is known at an end, by one of the views
abbrev pub IsHeld : {S : Type 0} → State S HandView → ℕ → EndFacts → Type 0
IsHeld st end h = (j : ℕ) × (v : HandView) × (get_elem? st.views j ≡ some v) × (at v.ends end ≡ Some h)

-- each end of a station is held, and whatever is known at the two, Prefix holds of the lists passed
pub record KeepsPrefix {S : Type 0} (plan : EndTable) (st : State S HandView) (station : ℕ) : Type 0 where
  pub filled : (f : EndFacts) × IsHeld st (fill station) f
  pub drained : (d : EndFacts) × IsHeld st (drain station) d
  pub prefix :
      (f d : EndFacts) → IsHeld st (fill station) f → IsHeld st (drain station) d
      → Prefix (capacity_of plan station) (passed_list f) (passed_list d) (stream_of plan station)

-- between any two steps of any hands, each station keeps to that: the rule of the table, which holds
-- then, gives it
abbrev pub StationsKeepPrefixes : Type 0
StationsKeepPrefixes =
    (plan : EndTable) → (st : State (Unit {0}) HandView) → Related plan st
    → (station : ℕ) → fill station < length plan → KeepsPrefix plan st station
