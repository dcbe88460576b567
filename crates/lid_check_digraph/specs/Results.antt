-- What the search for an order finds.
use Rattle.std.specs.Prelude.{ℕ, ◌<◌, List}
use Rattle.lid_check_digraph.specs.declared.topological.Found.{Found}
use Rattle.lid_check_digraph.specs.declared.topological.Found.TheVariants.{Order, Loop}
use Rattle.lid_check_digraph.specs.Graphs.{IsOnLoop, HasNoLoop, IsOrder}

-- the least number on a closed walk
pub record IsLeastOnLoop (g : List (List ℕ)) (k : ℕ) : Type 0 where
  pub on : IsOnLoop g k
  pub least : (j : ℕ) → j < k → IsOnLoop g j → ⊥

-- an order, and then there is no closed walk; or the least number on one
abbrev pub IsFound : List (List ℕ) → Found → Type 0
IsFound g (Order order) = IsOrder g order × HasNoLoop g
IsFound g (Loop k) = IsLeastOnLoop g k
