use Rattle.std.proofs.Common.{ℕ, ◌<◌, ◌≢◌}
use Rattle.std.specs.Option.{MatchOption}
use Rattle.lid_rate_ratio.specs.WalksBack.{predecessor_of}
use Rattle.lid_rate_ratio.specs.Components.{IsBranch}
use Rattle.lid_rate_ratio.proofs.branching.are_reached.Given as goal

abbrev pub invariant-loop-v : goal.invariant-loop-v
invariant-loop-v l = (w : ℕ) → w < l.v → w ≢ l.root.start → MatchOption (predecessor_of l.tree.via w) ⊥ (IsBranch l.graph l.root.q l.tree.lead l.tree.depth w)
