-- What ties the numbers that a board and a hand keep to what contracts know.
use Rattle.std.specs.Prelude.{◌≡◌, ℕ, ◌+◌, ◌*◌, ◌^◌, ◌<◌, ◌≤◌, List, length, Option, None, option_map, slice_index, slice_index_or}
use Rattle.atomic_table.specs.Seated.{TableId}
use Rattle.lid_board.specs.Relation.{first_word, capacity_of}
use Rattle.lid_board.specs.Views.{EndTable, at}
use Rattle.lid_board.specs.declared.view.EndFacts.{EndFacts}

-- the numbers that a hand keeps are those of the tokens that passed its ends
abbrev pub IsTied : List (Option ℕ) → EndTable → Type 0
IsTied numbers ends = (end : ℕ) → slice_index_or numbers end None ≡ option_map (λ (h : EndFacts). h.passed) (at ends end)

-- the capacities and the first words that a board keeps are those of the plan
pub record IsLaidTable (plan : EndTable) (caps firsts : List ℕ) (table : TableId) : Type 0 where
  pub ends : length plan ≡ 2 * length caps
  pub few : length caps < 2 ^ 32
  pub many : length firsts ≡ length caps
  pub sizes : (station : ℕ) → station < length caps → slice_index caps station ≡ capacity_of plan station
  pub two : (station : ℕ) → station < length caps → 2 ≤ slice_index caps station
  pub most : (station : ℕ) → station < length caps → slice_index caps station ≤ 16
  pub starts : (station : ℕ) → station < length caps → slice_index firsts station ≡ first_word plan station
  pub low : (station : ℕ) → station < length caps → slice_index firsts station ≤ 1 + 8 * station
  pub words : table.words ≡ first_word plan (length caps)
  pub slots : table.slots ≡ 0
