-- The draws of the generator: its states, and the number that each draw answers.
use Rattle.std.specs.Prelude.{ℕ, zero, suc, ◌+◌, ◌*◌, ◌%◌}

-- the state before the first draw
abbrev pub first_state : ℕ → ℕ
first_state seed = seed % 65537

-- the state to which a draw moves
abbrev pub moved : ℕ → ℕ
moved s = (75 * s + 74) % 65537

-- the state after so many draws from a state on
unfoldable pub state_after : ℕ → ℕ → ℕ
state_after zero s = s
state_after (suc k) s = moved (state_after k s)

-- what a draw answers that comes after k draws from a state on, where one of n numbers is wanted: the
-- state moves first
abbrev pub drawn : ℕ → ℕ → ℕ → ℕ
drawn s k n = moved (state_after k s) % n
