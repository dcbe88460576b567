-- The hand that comes back from code over any stations is the one that was lent.
use Rattle.std.proofs.Common.{◌≡◌, ℕ, sym, subst}
use Rattle.lid_board.specs.Owners.{IsOf, identity_of}
use Rattle.lid_board.specs.Lending.{IsBack}
use Rattle.lid_board.specs.declared.board.Board.{Board}
use Rattle.lid_board.specs.declared.hand.Hand.{Hand}
use Rattle.lid_board.proofs.Lent.{come_back}

pub came_back : (old new back : Hand) (before after : Board) (a b : ℕ) → identity_of a new after ≡ identity_of b old before → (b ≡ a → back ≡ new) → IsOf old before → IsOf new after → (back ≡ new) × IsOf new before
came_back old new back before after a b e is of_old of_new =
    let made : IsBack b a old new before = come_back b a old new before after e of_old of_new in
    (is (sym made.same), made.of)
