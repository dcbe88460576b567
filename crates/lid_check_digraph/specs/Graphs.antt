-- Graphs of numbers: what each number reads, walks, loops and orders.
use Rattle.std.specs.Prelude.{◌≡◌, ℕ, zero, suc, ◌<◌, ◌^◌, Bool, true, false, List, [], take, length, slice_index, slice_index_or}
use Rattle.lid_base.specs.Lists.{Among}

-- the numbers that k reads; none where there is no k
abbrev pub reads_at : List (List ℕ) → ℕ → List ℕ
reads_at g k = slice_index_or g k []

-- fewer than 2^32 numbers, and each read is one of them
pub record IsGraph (g : List (List ℕ)) : Type 0 where
  pub few : length g < 2 ^ 32
  pub within : (c b : ℕ) → Among b (reads_at g c) → b < length g

-- n edges lead from a to c. An edge leads from what is read to its reader
abbrev pub EdgesLead : List (List ℕ) → ℕ → ℕ → ℕ → Type 0
EdgesLead g zero a c = a ≡ c
EdgesLead g (suc n) a c = (b : ℕ) × EdgesLead g n a b × Among b (reads_at g c)

-- a closed walk leads through k
abbrev pub IsOnLoop : List (List ℕ) → ℕ → Type 0
IsOnLoop g k = (n : ℕ) × EdgesLead g (suc n) k k

abbrev pub HasNoLoop : List (List ℕ) → Type 0
HasNoLoop g = (k : ℕ) → IsOnLoop g k → ⊥

-- an order of all numbers, each once, in which each stands after all that it reads
pub record IsOrder (g : List (List ℕ)) (order : List ℕ) : Type 0 where
  pub long : length order ≡ length g
  pub all : (k : ℕ) → k < length g → Among k order
  pub within : (k : ℕ) → Among k order → k < length g
  pub once : (i : ℕ) → i < length order → Among (slice_index order i) (take i order) → ⊥
  pub earlier : (i b : ℕ) → i < length order → Among b (reads_at g (slice_index order i)) → Among b (take i order)

-- whether a number is marked; no number past the last is
abbrev pub flag : List Bool → ℕ → Bool
flag flags k = slice_index_or flags k false

-- n edges lead from a to c, each to a reader that is not cut: the reads of a number that is cut are not
-- followed
abbrev pub WalkPast : List (List ℕ) → List Bool → ℕ → ℕ → ℕ → Type 0
WalkPast g cut zero a c = a ≡ c
WalkPast g cut (suc n) a c = (b : ℕ) × WalkPast g cut n a b × Among b (reads_at g c) × (flag cut c ≡ false)

-- a walk past the cut leads from a to c, perhaps without an edge
abbrev pub IsReaching : List (List ℕ) → List Bool → ℕ → ℕ → Type 0
IsReaching g cut a c = (n : ℕ) × WalkPast g cut n a c

-- a walk past the cut leads from a start to k, perhaps without an edge
abbrev pub IsReached : List (List ℕ) → List Bool → List Bool → ℕ → Type 0
IsReached g cut starts k = (a : ℕ) × (flag starts a ≡ true) × IsReaching g cut a k
