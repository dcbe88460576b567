-- How ends go from hand to hand.
use Rattle.std.specs.Prelude.{ℕ, suc, ◌==◌, ◌||◌, cond, Bool, false, List, [], ◌∷◌, map, Option, Some, None, option_map}
use Rattle.lid_station.specs.Boards.{fill, drain}
use Rattle.lid_station.specs.declared.looks.End.{End}
use Rattle.lid_station.specs.declared.looks.Side.{Side}
use Rattle.lid_station.specs.declared.looks.Side.TheVariants.{Fill, Drain}
use Rattle.lid_board.specs.Views.{EndTable}
use Rattle.lid_board.specs.declared.view.EndFacts.{EndFacts}

-- the number of a side's end of a station
abbrev pub side_number : Side → ℕ → ℕ
side_number Fill station = fill station
side_number Drain station = drain station

-- the number of an end
abbrev pub end_number : End → ℕ
end_number end = side_number end.side end.station

-- whether an end is among these
abbrev pub is_chosen : List End → ℕ → Bool
is_chosen [] end = false
is_chosen (e ∷ es) end = (end_number e == end) || is_chosen es end

-- what was seen is not seen any more
abbrev pub unseen : EndFacts → EndFacts
unseen h = record h { mark = false }

-- the first that is there
abbrev pub or_else : {A : Type 0} → Option A → Option A → Option A
or_else None o = o
or_else (Some x) o = Some x

-- the ends that stay, numbered from `end` on
abbrev pub left_from : (ℕ → Bool) → ℕ → EndTable → EndTable
left_from chosen end [] = []
left_from chosen end (o ∷ os) = cond (chosen end) None o ∷ left_from chosen (suc end) os

-- the ends that go, with nothing seen
abbrev pub right_from : (ℕ → Bool) → ℕ → EndTable → EndTable
right_from chosen end [] = []
right_from chosen end (o ∷ os) = cond (chosen end) (option_map unseen o) None ∷ right_from chosen (suc end) os

-- two hands' ends, with nothing seen at those of the second
abbrev pub merged_ends : EndTable → EndTable → EndTable
merged_ends [] others = map (option_map unseen) others
merged_ends (o ∷ os) [] = o ∷ os
merged_ends (o ∷ os) (x ∷ xs) = or_else o (option_map unseen x) ∷ merged_ends os xs
