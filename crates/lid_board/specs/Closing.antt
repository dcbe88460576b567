-- How a board ends, as plain stations.
use Rattle.std.specs.Prelude.{◌≡◌, ℕ, ◌+◌, ◌-◌, ◌*◌, ◌/◌, ◌<◌, ◌≤◌, false, List, length, Option, Some, None, slice_get, slice_index, slice_index_or}
use Rattle.std.specs.Option.{unwrap_or}
use Rattle.lid_station.specs.Boards.{Facts}
use Rattle.lid_station.specs.declared.pair.Pair.{Pair}
use Rattle.lid_board.specs.Halves.{word_half}
use Rattle.lid_board.specs.declared.view.EndFacts.{EndFacts}

-- the number that a hand keeps of an end, 0 where it keeps none
abbrev pub number_at : List (Option ℕ) → ℕ → ℕ
number_at numbers end = unwrap_or (slice_index_or numbers end None) 0

-- what is known at an end once the board is closed: nothing is seen, the start count is not known,
-- and misses are not counted
abbrev pub closed_facts : EndFacts → Facts
closed_facts h = record { cap = h.cap; start = 0; passed = h.passed; mark = false; misses = None }

-- whether a plain station can hold what a station holds that so many tokens passed
pub record CanRestore (words first so_put so_taken : ℕ) (p : Pair) : Type 0 where
  pub inside : first + (length p.places.items + 1) / 2 ≤ words
  pub ordered : so_taken ≤ so_put
  pub room : so_put ≤ so_taken + length p.places.items

-- whether a plain station holds what the words of a station show that so many tokens passed
pub record IsRestored (words : List ℕ) (first so_put so_taken cap : ℕ) (p : Pair) : Type 0 where
  pub put : p.put ≡ so_put
  pub taken : p.taken ≡ so_taken
  pub no_token : p.token_seen ≡ false
  pub no_room : p.room_seen ≡ false
  pub size : length p.places.items ≡ cap
  pub places :
      (place : ℕ) → place < cap
      → slice_index p.places.items place ≡ word_half place (slice_index words (first + place / 2)) - 2147483648

-- whether the first plain stations hold that, and the others are as they were
pub record Restored (words firsts : List ℕ) (numbers : List (Option ℕ)) (old new : List Pair) (count : ℕ) : Type 0 where
  pub many : length new ≡ length old
  pub done :
      (i : ℕ) → (p q : Pair) → i < count → slice_get old i ≡ Some p → slice_get new i ≡ Some q
      → IsRestored words (slice_index firsts i) (number_at numbers (2 * i)) (number_at numbers (2 * i + 1)) (length p.places.items) q
  pub others : (i : ℕ) → count ≤ i → slice_get new i ≡ slice_get old i
