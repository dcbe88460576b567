-- Shares: number v falls to worker v mod the number of workers.
use Rattle.std.specs.Prelude.{◌≡◌, ℕ, suc, ◌%◌, ◌==◌, Bool, if◌then◌else◌, List, [], ◌∷◌, get_or}
use Rattle.lid_base.specs.Each.{from_each}

-- number v falls to worker i
abbrev pub is_own : ℕ → ℕ → ℕ → Bool
is_own workers i v = v % workers == i

-- the elements whose places pass, in order, where the first has place k
abbrev pub picked : {A : Type 0} → (ℕ → Bool) → ℕ → List A → List A
picked p k [] = []
picked p k (x ∷ xs) = if p k then x ∷ picked p (suc k) xs else picked p (suc k) xs

-- the share of worker i of a list
abbrev pub share : {A : Type 0} → ℕ → ℕ → List A → List A
share workers i xs = picked (is_own workers i) 0 xs

-- the share of worker i of all numbers below another
abbrev pub numbers_of : ℕ → ℕ → ℕ → List ℕ
numbers_of workers i n = share workers i (from_each (λ v. v) 0 n)

-- the worker to which an end falls, where these are the actors that own the ends
abbrev pub holder : ℕ → List ℕ → ℕ → ℕ
holder workers owners end = get_or owners end 0 % workers
