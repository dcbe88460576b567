-- For the loops: what is kept of the numbers in a depth-first search and while their components are told.
use Rattle.std.specs.Prelude.{◌≡◌, ℕ, length}
use Rattle.lid_check_digraph.specs.declared.tarjan.Components.{Components}
use Rattle.lid_check_digraph.specs.declared.depth_first.Traversal.{Traversal}
use Rattle.lid_check_digraph.specs.PartialOrders.{AreBelow}

-- the numbers of both orders are below n
pub record IsTraversal (n : ℕ) (traversal : Traversal) : Type 0 where
  pub preorder_below : AreBelow n traversal.preorder.items
  pub postorder_below : AreBelow n traversal.postorder.items

-- there is an entry for each of n numbers
pub record AreComponents (n : ℕ) (components : Components) : Type 0 where
  pub index_count : length components.indices.items ≡ n
  pub lowlink_count : length components.lowlinks.items ≡ n
  pub rank_count : length components.ranks.items ≡ n
  pub ranked_count : length components.ranked.items ≡ n
  pub stack_below : AreBelow n components.stack.items
