-- Hands that are lent, with their board, to code over any stations.
use Rattle.std.specs.Prelude.{◌≡◌, ℕ, length}
use Rattle.lid_board.specs.Owners.{IsOf, identity_of}
use Rattle.lid_board.specs.declared.board.Board.{Board}
use Rattle.lid_board.specs.declared.hand.Hand.{Hand}

-- what came back is the hand that was lent, by its ghost name, and is one of the board, with as many ends
pub record IsBack (lent back : ℕ) (old new : Hand) (board : Board) : Type 0 where
  pub same : back ≡ lent
  pub of : IsOf new board
  pub ends : length new.ends.items ≡ length old.ends.items

-- stations that are made of what they were made of before have the same hand, of the same board
abbrev pub LentHandsComeBack : Type 0
LentHandsComeBack =
    (lent back : ℕ) → (old new : Hand) → (before after : Board)
    → identity_of back new after ≡ identity_of lent old before → IsOf old before → IsOf new after
    → IsBack lent back old new before
