-- How a board starts.
use Rattle.std.specs.Prelude.{◌≡◌, ℕ, zero, suc, ◌+◌, ◌*◌, ◌^◌, ◌<◌, ◌≤◌, false, List, [], ◌∷◌, length, Option, Some, None, slice_get, slice_index, slice_index_or, IfSome}
use Rattle.std.specs.List.{All}
use Rattle.lid_station.specs.Starts.{start_count}
use Rattle.lid_board.specs.Relation.{word_count}
use Rattle.lid_board.specs.Views.{EndTable}
use Rattle.lid_board.specs.declared.view.EndFacts.{EndFacts}

-- what is known at an end that so many tokens passed, of a station at its start
abbrev pub started : Option ℕ → ℕ → List ℕ → ℕ → EndFacts
started first cap stream passed =
    record { stream = stream; start = start_count first; cap = cap; passed = passed; mark = false; misses = 0 }

-- what is known at the filled end of a station at its start, where its start token has passed, and
-- at its drained end
abbrev pub start_fill : List (Option ℕ) → List ℕ → List (List ℕ) → ℕ → EndFacts
start_fill firsts caps streams station =
    started (slice_index_or firsts station None) (slice_index caps station) (slice_index_or streams station []) (start_count (slice_index_or firsts station None))

abbrev pub start_drain : List (Option ℕ) → List ℕ → List (List ℕ) → ℕ → EndFacts
start_drain firsts caps streams station =
    started (slice_index_or firsts station None) (slice_index caps station) (slice_index_or streams station []) 0

-- what is known at the ends of `count` stations from a station on
abbrev pub starts_from : List (Option ℕ) → List ℕ → List (List ℕ) → ℕ → ℕ → EndTable
starts_from firsts caps streams station zero = []
starts_from firsts caps streams station (suc count) =
    Some (start_fill firsts caps streams station) ∷ Some (start_drain firsts caps streams station)
    ∷ starts_from firsts caps streams (suc station) count

-- what is known at all ends at the start
abbrev pub first_ends : List (Option ℕ) → List ℕ → List (List ℕ) → EndTable
first_ends firsts caps streams = starts_from firsts caps streams 0 (length firsts)

-- whether streams are those of a course for these start tokens: one of 31-bit tokens for each
-- station, of fewer than 2^64, which begins with the start token
pub record AreStreamsFor (firsts : List (Option ℕ)) (streams : List (List ℕ)) : Type 0 where
  pub many : length streams ≡ length firsts
  pub short : All (λ stream. length stream < 2 ^ 64) streams
  pub small : All (λ stream. All (λ token. token < 2 ^ 31) stream) streams
  pub first :
      (station token : ℕ) → slice_get firsts station ≡ Some (Some token)
      → slice_get (slice_index_or streams station []) 0 ≡ Some token

-- whether stations can start with these tokens, or none, and capacities: one of 2 to 16 for each
-- station, and tokens of 31 bits
pub record CanStart (firsts : List (Option ℕ)) (caps : List ℕ) : Type 0 where
  pub same : length caps ≡ length firsts
  pub two : All (λ cap. 2 ≤ cap) caps
  pub few : All (λ cap. cap ≤ 16) caps
  pub small : All (λ first. IfSome first (λ token. token < 2 ^ 31)) firsts

-- the number of the first word of a station, by the capacities of the stations before it
abbrev pub first_of : List ℕ → ℕ → ℕ
first_of caps zero = 1
first_of caps (suc station) = first_of caps station + word_count (slice_index caps station)

-- the first word of a station that starts with a token, or with none
abbrev pub start_word : Option ℕ → ℕ
start_word None = 0
start_word (Some token) = 2147483648 + token

-- the words of the first stations, as they start: only the first place of a station may be full
pub record AreLaid (firsts : List (Option ℕ)) (caps words : List ℕ) (stations : ℕ) : Type 0 where
  pub long : length words ≡ first_of caps stations
  pub free : slice_index words 0 ≡ 0
  pub first : (station : ℕ) → station < stations → slice_index words (first_of caps station) ≡ start_word (slice_index_or firsts station None)
  pub rest :
      (station number : ℕ) → station < stations → number + 1 < word_count (slice_index caps station)
      → slice_index words (first_of caps station + (number + 1)) ≡ 0

-- the numbers of the first words of the first stations
pub record AreFirsts (caps numbers : List ℕ) (stations : ℕ) : Type 0 where
  pub many : length numbers ≡ stations
  pub each : (station : ℕ) → station < stations → slice_index numbers station ≡ first_of caps station

-- the words of one station were added, of which the first is `word` and the others are 0
pub record HasLaidWords (old : List ℕ) (word count : ℕ) (now : List ℕ) : Type 0 where
  pub long : length now ≡ length old + count
  pub before : (i : ℕ) → i < length old → slice_index now i ≡ slice_index old i
  pub first : slice_index now (length old) ≡ word
  pub rest : (i : ℕ) → length old < i → slice_index now i ≡ 0

-- how many tokens passed the ends of the first stations at the start
pub record AreNumbers (firsts : List (Option ℕ)) (numbers : List (Option ℕ)) (stations : ℕ) : Type 0 where
  pub long : length numbers ≡ 2 * stations
  pub fills : (station : ℕ) → station < stations → slice_index_or numbers (2 * station) None ≡ Some (start_count (slice_index_or firsts station None))
  pub drains : (station : ℕ) → station < stations → slice_index_or numbers (2 * station + 1) None ≡ Some 0
