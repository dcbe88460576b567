use Rattle.std.proofs.Common.{◌≡◌, ◌-◌, ◌≤◌, ℕ, length}
use Rattle.lid_clock.specs.Lives.{Life, Holds}
use Rattle.lid_clock_flat.specs.Wakings.{DecidedTo, KeepsRows}
use Rattle.lid_clock_flat.proofs.run.FlatRun.decide_all.Given as goal

-- the actors before this one have decided, and it is awake
abbrev pub invariant-loop-actor : goal.invariant-loop-actor
invariant-loop-actor l = record {
  nodes : l.nodes ≡ length l.fn.self.nodes.items;
  past : l.actor ≤ length l.self.awake.items;
  decided : (life : Life) (k g : ℕ) → Holds life k l.fn.source l.fn.sink → DecidedTo life k g 0 l.fn.self → DecidedTo life k g l.actor l.self;
  kept : KeepsRows l.fn.self l.self;
}

abbrev pub decreases-loop-actor : goal.decreases-loop-actor
decreases-loop-actor l = length l.fn.self.awake.items - l.actor
