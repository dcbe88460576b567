-- Hands and their boards.
use Rattle.std.specs.Prelude.{◌≡◌, ℕ, ◌<◌, ◌+◌, ◌*◌, ◌/◌, ◌%◌, List, length, map, Some}
use base.Stored.{Gv, gnum, gcons, coded_ℕ, coded_list}
use Rattle.atomic_table.specs.Seated.{TableId, table_id_coded}
use Rattle.lid_board.specs.Relation.{AreWithin, first_word, capacity_of}
use Rattle.lid_board.specs.Views.{EndTable, at, held, held_of}
use Rattle.lid_board.specs.declared.board.Board.{Board}
use Rattle.lid_board.specs.declared.calls.Spot.{Spot}
use Rattle.lid_board.specs.declared.hand.Hand.{Hand}
use Rattle.lid_board.specs.declared.view.EndFacts.{EndFacts}

-- what is known at the ends that a hand owns
abbrev pub ends_of : Hand → EndTable
ends_of hand = hand.seat.me.0.ends

-- the ends at which a hand made its steps, the latest first
abbrev pub steps_of : Hand → List ℕ
steps_of hand = hand.seat.me.0.steps

-- a seat of the first table is one of the second, which has this word
abbrev pub IsAtWord : TableId → TableId → ℕ → Type 0
IsAtWord mine table word = (mine ≡ table) × (word < table.words)

-- what was known at the ends of a board at its start: the streams, start counts and capacities,
-- which never change
abbrev pub start_ends : Board → EndTable
start_ends board = board.table.shared.key.me.0.ends

-- the streams at the ends of a plan, in order
abbrev pub streams_in : EndTable → List (List ℕ)
streams_in plan = map (λ o. (held_of o).stream) plan

-- what a hand that was lent, and its board, are made of: the hand's ghost name, how many ends it has
-- room for, its table, and the streams of the board
abbrev pub identity_of : ℕ → Hand → Board → Gv
identity_of ghost_name hand board =
    gcons (gnum ghost_name)
    (gcons (gnum (length hand.ends.items))
    (gcons (table_id_coded.code hand.seat.table_id) ((coded_list (coded_list coded_ℕ)).code (streams_in (start_ends board)))))

-- whether a hand is one of a board: of its table, with room for all its ends, and passed by no more
-- tokens at an end than the board's stream has
pub record IsOf (hand : Hand) (board : Board) : Type 0 where
  pub table : hand.seat.table_id ≡ board.table.shared.table_id
  pub room : length hand.ends.items ≡ 2 * length board.caps.items
  pub within : AreWithin (start_ends board) (ends_of hand)

-- whether an end is among these
abbrev pub IsOwned : EndTable → ℕ → Type 0
IsOwned ends end = at ends end ≡ Some (held ends end)

-- an end is one of those that a hand of a board owns
pub record HasEnd (hand : Hand) (board : Board) (end : ℕ) : Type 0 where
  pub of : IsOf hand board
  pub owned : IsOwned (ends_of hand) end

-- where the next token of an end is: its place, and the word of that place
pub record IsSpot (plan : EndTable) (station : ℕ) (h : EndFacts) (spot : Spot) : Type 0 where
  pub passed : spot.passed ≡ h.passed
  pub place : spot.place ≡ h.passed % capacity_of plan station
  pub word : spot.word ≡ first_word plan station + spot.place / 2
