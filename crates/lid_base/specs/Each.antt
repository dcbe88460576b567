-- Lists of what a function gives at each of so many numbers.
use Rattle.std.specs.Prelude.{ℕ, zero, suc, ◌+◌, List, [], ◌∷◌}

-- f at each of so many numbers from k on
abbrev pub from_each : {A : Type 0} → (ℕ → A) → ℕ → ℕ → List A
from_each f k zero = []
from_each f k (suc n) = f k ∷ from_each f (k + 1) n
