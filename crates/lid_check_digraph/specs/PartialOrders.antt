-- For the loops: an order of some numbers, the numbers that are left out of it, and marks.
use Rattle.std.specs.Prelude.{◌≡◌, ℕ, ◌+◌, ◌<◌, ◌≤◌, Bool, true, false, List, take, length, slice_index}
use Rattle.std.specs.List.{All, sum_by}
use Rattle.lid_base.specs.Lists.{Among}
use Rattle.lid_check_digraph.specs.declared.depth_first.Visit.{Visit}
use Rattle.lid_check_digraph.specs.Graphs.{reads_at, IsOnLoop, flag}

abbrev pub count_true : Bool → ℕ
count_true true = 1
count_true false = 0

abbrev pub count_false : Bool → ℕ
count_false true = 0
count_false false = 1

-- how many numbers are marked, and how many are not
abbrev pub marked : List Bool → ℕ
marked flags = sum_by count_true flags

abbrev pub unmarked : List Bool → ℕ
unmarked flags = sum_by count_false flags

-- some of the numbers, each once and after all that it reads; the others are left
pub record IsPartialOrder (g : List (List ℕ)) (order : List ℕ) (left : List Bool) : Type 0 where
  pub count : length left ≡ length g
  pub counted : length order + marked left ≡ length g
  pub some : (k : ℕ) → k < length g → flag left k ≡ false → Among k order
  pub taken : (k : ℕ) → Among k order → flag left k ≡ false
  pub within : (k : ℕ) → Among k order → k < length g
  pub once : (i : ℕ) → i < length order → Among (slice_index order i) (take i order) → ⊥
  pub earlier : (i b : ℕ) → i < length order → Among b (reads_at g (slice_index order i)) → Among b (take i order)

-- where the number is left, so is one that it reads
abbrev pub IsStuckAt : List (List ℕ) → List Bool → ℕ → Type 0
IsStuckAt g left k = flag left k ≡ true → (b : ℕ) × Among b (reads_at g k) × (flag left b ≡ true)

-- each number that is left reads one that is left
abbrev pub IsStuck : List (List ℕ) → List Bool → Type 0
IsStuck g left = (k : ℕ) → k < length g → IsStuckAt g left k

-- a round as far as it has come
pub record IsSwept (g : List (List ℕ)) (n : ℕ) (old_left : List Bool) (order : List ℕ) (left : List Bool) (took : Bool) : Type 0 where
  pub part : IsPartialOrder g order left
  pub fewer : took ≡ true → marked left < marked old_left
  pub no_more : marked left ≤ marked old_left
  pub stuck : took ≡ false → (k : ℕ) → k < n → IsStuckAt g left k

-- all numbers of the list are below n
abbrev pub AreBelow : ℕ → List ℕ → Type 0
AreBelow n numbers = All (λ k. k < n) numbers

abbrev pub AreVisitsBelow : ℕ → List Visit → Type 0
AreVisitsBelow n visits = All (λ visit. visit.number < n) visits

-- no number on a closed walk lacks its mark
abbrev pub MarksLoops : List (List ℕ) → List Bool → Type 0
MarksLoops g marks = (k : ℕ) → IsOnLoop g k → flag marks k ≡ true

-- what c reads has no greater rank than c, and a lesser one where it lacks its mark
abbrev pub IsUphill : List (List ℕ) → List Bool → List ℕ → ℕ → Type 0
IsUphill g marks ranks c =
    (b : ℕ)
    → Among b (reads_at g c)
    → (slice_index ranks b ≤ slice_index ranks c) × (flag marks b ≡ false → slice_index ranks b < slice_index ranks c)

-- no number on a closed walk is marked
abbrev pub SparesLoops : List (List ℕ) → List Bool → Type 0
SparesLoops g marks = (k : ℕ) → IsOnLoop g k → flag marks k ≡ false
