-- The covers of a wrapped system, and the truth of each.
use Rattle.std.specs.Prelude.{◌≡◌, ℕ, Bool, true, if◌then◌else◌, [], ◌∷◌}
use Rattle.lid_cover.specs.declared.Cover.{Cover}
use Rattle.lid_cover.specs.declared.Cube.{Cube}
use Rattle.lid_cover.specs.Cover.{cover_value}

-- a cube that looks at some inputs and wants some of them, each a number with a bit for each input
abbrev pub cube : ℕ → ℕ → Cube
cube care value = record { care = care; value = value }

-- a bit that is the same in all rows
abbrev pub constant : Bool → Cover
constant bit = record { inputs = 0; on = true; cubes = if bit then cube 0 0 ∷ [] else [] }

-- its input
abbrev pub buffer : Cover
buffer = record { inputs = 1; on = true; cubes = cube 1 1 ∷ [] }

-- the contrary of its input
abbrev pub negation : Cover
negation = record { inputs = 1; on = true; cubes = cube 1 0 ∷ [] }

-- both inputs
abbrev pub both : Cover
both = record { inputs = 2; on = true; cubes = cube 3 3 ∷ [] }

-- the first input without the second
abbrev pub without : Cover
without = record { inputs = 2; on = true; cubes = cube 3 1 ∷ [] }

-- where the first input is 1 the second, else the third
abbrev pub choice : Cover
choice = record { inputs = 3; on = true; cubes = cube 3 3 ∷ cube 5 4 ∷ [] }

-- whether a station then holds at least i tokens. The inputs: it is drained; it is filled; it holds at least
-- i - 1, i, i + 1
abbrev pub count : Cover
count = record { inputs = 5; on = true; cubes = cube 11 11 ∷ cube 19 17 ∷ cube 7 6 ∷ cube 11 8 ∷ [] }

abbrev pub count_value : Bool → Bool → Bool → Bool → Bool → Bool
count_value drained filled less same more = if drained then (if filled then same else more) else (if filled then less else same)

-- the bit that then stands in place i. The inputs: the station is drained; it holds at least i + 1; the bit in place i;
-- it holds at least i + 2; the bit in place i + 1; the bit that is put
abbrev pub move : Cover
move = record { inputs = 6; on = true; cubes = cube 25 25 ∷ cube 41 33 ∷ cube 7 6 ∷ cube 35 32 ∷ [] }

abbrev pub move_value : Bool → Bool → Bool → Bool → Bool → Bool → Bool
move_value drained held here more next put = if drained then (if more then next else put) else (if held then here else put)

-- a cover that gives its one input
abbrev pub PassesOn : Cover → Type 0
PassesOn cover = (bit : Bool) → cover_value cover (bit ∷ []) ≡ bit
