-- For the loops: the search back from a number.
use Rattle.std.specs.Prelude.{◌≡◌, ℕ, suc, ◌+◌, ◌*◌, ◌≤◌, ◌⊎◌, Bool, true, false, if◌then◌else◌, List, [], length}
use Rattle.lid_base.specs.Lists.{Among}
use Rattle.lid_check_digraph.specs.Graphs.{reads_at, flag, WalkPast}
use Rattle.lid_check_digraph.specs.PartialOrders.{unmarked}

-- a walk past the cut with at least one edge leads from a to c
abbrev pub IsFeeding : List (List ℕ) → List Bool → ℕ → ℕ → Type 0
IsFeeding g cut a c = (n : ℕ) × WalkPast g cut (suc n) a c

-- the reads of a number that are followed: none where it is cut
abbrev pub followed : List (List ℕ) → List Bool → ℕ → List ℕ
followed g cut c = if flag cut c then [] else reads_at g c

abbrev pub AreMarked : List Bool → List ℕ → Type 0
AreMarked seen numbers = (b : ℕ) → Among b numbers → flag seen b ≡ true

-- some numbers are marked, and those that are new are still to be looked at
pub record Marks (numbers : List ℕ) (old_seen : List Bool) (old_todo : List ℕ) (new_seen : List Bool) (new_todo : List ℕ) : Type 0 where
  pub count : length new_seen ≡ length old_seen
  pub all : AreMarked new_seen numbers
  pub kept : (c : ℕ) → flag old_seen c ≡ true → flag new_seen c ≡ true
  pub only : (c : ℕ) → flag new_seen c ≡ true → (flag old_seen c ≡ true) ⊎ Among c numbers
  pub new : (c : ℕ) → flag new_seen c ≡ true → (flag old_seen c ≡ true) ⊎ Among c new_todo
  pub stays : (c : ℕ) → Among c old_todo → Among c new_todo
  pub added : (c : ℕ) → Among c new_todo → Among c old_todo ⊎ (flag new_seen c ≡ true)
  pub less : 2 * unmarked new_seen + length new_todo ≤ 2 * unmarked old_seen + length old_todo

-- the search as far as it has come
pub record IsSearch (g : List (List ℕ)) (cut : List Bool) (end : ℕ) (seen : List Bool) (todo : List ℕ) : Type 0 where
  pub count : length seen ≡ length g
  pub sound : (a : ℕ) → flag seen a ≡ true → IsFeeding g cut a end
  pub first : flag cut end ≡ false → AreMarked seen (reads_at g end)
  pub rest : (c : ℕ) → flag seen c ≡ true → flag cut c ≡ false → Among c todo ⊎ AreMarked seen (reads_at g c)
  pub marked : (c : ℕ) → Among c todo → flag seen c ≡ true
