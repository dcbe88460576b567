-- For the search: capacities that are chosen one after the other, with 16 for all later stations.
use Rattle.std.specs.Prelude.{ℕ, ◌+◌, ◌-◌, ◌<◌, ◌≤◌, List, ◌∷◌, ◌++◌, length, take, replicate, slice_index}
use Rattle.std.specs.List.{All}
use Rattle.lid_stations.specs.Placements.{IsCapacity}

-- some capacities of n, then c, then 16 for all later stations
abbrev pub followed : ℕ → List ℕ → ℕ → List ℕ
followed n done c = done ++ c ∷ replicate (n - (length done + 1)) 16

-- the first capacities of n, each the least with 16 for all later stations
pub record AreChosen (P : List ℕ → Type 0) (n : ℕ) (done : List ℕ) : Type 0 where
  pub few : length done ≤ n
  pub range : All IsCapacity done
  pub holds : P (done ++ replicate (n - length done) 16)
  pub tight : (s : ℕ) → s < length done → 2 < slice_index done s → P (followed n (take s done) (slice_index done s - 1)) → ⊥

-- the least capacity of the next station, with 16 for all later ones
pub record IsNextCapacity (P : List ℕ → Type 0) (n : ℕ) (done : List ℕ) (c : ℕ) : Type 0 where
  pub range : IsCapacity c
  pub holds : P (followed n done c)
  pub tight : 2 < c → P (followed n done (c - 1)) → ⊥
