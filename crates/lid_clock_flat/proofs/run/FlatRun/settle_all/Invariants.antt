use Rattle.std.proofs.Common.{◌≡◌, ◌-◌, ◌<◌, ◌≤◌, length}
use Rattle.lid_clock_flat.specs.Ends.{SettledTo, HasFired}
use Rattle.lid_clock_flat.proofs.run.FlatRun.settle_all.Given as goal

-- the stations of the actors before this one have settled, and it is the next that fired
abbrev pub invariant-loop-actor : goal.invariant-loop-actor
invariant-loop-actor l = record {
  nodes : l.nodes ≡ length l.fn.self.nodes.items;
  past : l.actor ≤ length l.fn.self.went.items;
  settled : SettledTo l.actor l.fn.self l.self;
  next : l.actor < length l.fn.self.went.items → HasFired l.actor l.fn.self;
}

abbrev pub decreases-loop-actor : goal.decreases-loop-actor
decreases-loop-actor l = length l.fn.self.went.items - l.actor
