-- What holds of a shared board between any two steps.
use Rattle.std.specs.Prelude.{◌≡◌, ℕ, zero, suc, ◌+◌, ◌*◌, ◌/◌, ◌^◌, ◌<◌, ◌≤◌, true, List, length, take, Some, slice_index}
use Rattle.std.specs.List.{All, sum_by}
use mathlib.Core.Option.{some}
use lib.ListN.{get_elem?}
use Rattle.atomic_table.specs.Table.{State}
use Rattle.lid_station.specs.Boards.{fill, drain}
use Rattle.lid_station.specs.Words.{word}
use Rattle.lid_board.specs.Views.{EndTable, at, held, has}
use Rattle.lid_board.specs.declared.view.EndFacts.{EndFacts}
use Rattle.lid_board.specs.declared.view.HandView.{HandView}

-- how many words a station of a capacity has
abbrev pub word_count : ℕ → ℕ
word_count cap = (cap + 1) / 2

-- the number of the first word of a station. Word 0 belongs to no station, and the words of the
-- stations follow in order
abbrev pub first_word : EndTable → ℕ → ℕ
first_word plan zero = 1
first_word plan (suc station) = first_word plan station + word_count (held plan (fill station)).cap

-- the stream and the capacity of a station
abbrev pub stream_of : EndTable → ℕ → List ℕ
stream_of plan station = (held plan (fill station)).stream

abbrev pub capacity_of : EndTable → ℕ → ℕ
capacity_of plan station = (held plan (fill station)).cap

-- whether no end was passed by more tokens than the stream of its station has
abbrev pub AreWithin : EndTable → EndTable → Type 0
AreWithin plan ends = (end : ℕ) → (h : EndFacts) → at ends end ≡ Some h → h.passed ≤ length (stream_of plan (end / 2))

-- what never changes at an end: the stream, how many tokens the station started with, the capacity
pub record IsPlanned (plan h : EndFacts) : Type 0 where
  pub stream : h.stream ≡ plan.stream
  pub start : h.start ≡ plan.start
  pub cap : h.cap ≡ plan.cap

-- the same of an end, as a value
pub record Fixed : Type 0 where
  pub stream : List ℕ
  pub start : ℕ
  pub cap : ℕ

abbrev pub fixed_of : EndFacts → Fixed
fixed_of h = record { stream = h.stream; start = h.start; cap = h.cap }

-- what never changes of a station, of which f stands at the filled end and d at the drained end
pub record IsFixedStation (f d : Fixed) : Type 0 where
  pub stream : d.stream ≡ f.stream
  pub cap : d.cap ≡ f.cap
  pub start : d.start ≡ f.start
  pub two : 2 ≤ f.cap
  pub few : f.cap ≤ 16
  pub small : All (λ token. token < 2 ^ 31) f.stream
  pub short : length f.stream < 2 ^ 64

-- One station, of which f is known at its filled end and d at its drained end. The tokens that
-- passed an end are the first of the stream, as many as its number says
pub record Kept (words : List ℕ) (first : ℕ) (f d : EndFacts) : Type 0 where
  pub fixed : IsFixedStation (fixed_of f) (fixed_of d)
  pub within : f.passed ≤ length f.stream
  pub ordered : d.passed ≤ f.passed
  pub room : f.passed ≤ d.passed + f.cap
  pub started : f.start ≤ f.passed
  pub shows :
      (number : ℕ) → number < word_count f.cap
      → slice_index words (first + number) ≡ word f.cap (take f.passed f.stream) (take d.passed f.stream) number
  pub token_seen : d.mark ≡ true → d.passed < f.passed
  pub room_seen : f.mark ≡ true → f.passed < d.passed + f.cap
  pub token_early : d.passed < d.start → d.misses ≡ 0
  pub room_early : f.passed < f.cap → f.misses ≡ 0

-- The whole board. `plan` is what was known at the ends at the start, and `truth` is what is known
-- at each end now, whoever has it. Each end is in exactly one view
pub record Related {S : Type 0} (plan : EndTable) (st : State S HandView) : Type 0 where
  pub truth : ℕ → EndFacts
  pub stations : ℕ
  pub ends : length plan ≡ 2 * stations
  pub words : length st.words ≡ first_word plan stations
  pub no_station : slice_index st.words 0 ≡ 0
  pub one : (end : ℕ) → end < length plan → sum_by (has end) st.views ≡ 1
  pub none : (end : ℕ) → length plan ≤ end → sum_by (has end) st.views ≡ 0
  pub agree :
      (j : ℕ) → (v : HandView) → (end : ℕ) → (h : EndFacts) → get_elem? st.views j ≡ some v → at v.ends end ≡ Some h
      → h ≡ truth end
  pub planned : (end : ℕ) → end < length plan → IsPlanned (held plan end) (truth end)
  pub kept :
      (station : ℕ) → station < stations
      → Kept st.words (first_word plan station) (truth (fill station)) (truth (drain station))
