-- What the four calls leave of a hand.
use Rattle.std.proofs.Common.{◌≡◌, ℕ, List, refl, sym, subst}
use Rattle.std.specs.Prelude.{Option, Some, None, option_map}
use Rattle.std.proofs.lemmas.Option.{same_Some}
use Rattle.lid_station.specs.Boards.{Facts, fill, drain}
use Rattle.lid_board.specs.Halves.{word_half}
use Rattle.lid_board.specs.Owners.{IsOwned}
use Rattle.lid_board.specs.Ties.{IsTied}
use Rattle.lid_board.specs.Told.{LooksIn, LooksOut}
use Rattle.lid_board.specs.Views.{EndTable, facts, held, held_of, held_seen, missing}
use Rattle.lid_board.specs.declared.view.EndFacts.{EndFacts}
use Rattle.lid_board.proofs.Ties.{tied_same}
use mathlib.Core.Logic.{dite}
use native.Mathlib.Decide.{ℕ_discrete}

-- a look keeps the numbers
pub tied_in : (plan old new : EndTable) (station place found : ℕ) (numbers : List (Option ℕ)) → IsTied numbers old → IsOwned old (drain station) → LooksIn plan old station place (held old (drain station)) found new → IsTied numbers new
tied_in plan old new station place found numbers tied owned told =
    dite (ℕ_discrete (word_half place found) 0)
    (λ none. subst (IsTied numbers) (sym (told.void none).now) (tied_same numbers old (drain station) (held old (drain station)) (missing (held old (drain station))) tied owned refl))
    (λ some. subst (IsTied numbers) (sym (told.token some).0) (tied_same numbers old (drain station) (held old (drain station)) (held_seen (held old (drain station))) tied owned refl))

pub tied_out : (plan old new : EndTable) (station place found : ℕ) (numbers : List (Option ℕ)) → IsTied numbers old → IsOwned old (fill station) → LooksOut plan old station place (held old (fill station)) found new → IsTied numbers new
tied_out plan old new station place found numbers tied owned told =
    dite (ℕ_discrete (word_half place found) 0)
    (λ none. subst (IsTied numbers) (sym (told.room none)) (tied_same numbers old (fill station) (held old (fill station)) (held_seen (held old (fill station))) tied owned refl))
    (λ some. subst (IsTied numbers) (sym (told.stop some).now) (tied_same numbers old (fill station) (held old (fill station)) (missing (held old (fill station))) tied owned refl))

-- what is known of a served end
pub facts_held : (o : Option EndFacts) (f : Facts) → option_map facts o ≡ Some f → f ≡ facts (held_of o)
facts_held None f e = absurd (cc)
facts_held (Some h) f e = sym (same_Some (facts h) f e)
