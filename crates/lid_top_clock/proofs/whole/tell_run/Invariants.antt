use Rattle.std.proofs.Common.{◌≡◌, ◌≤◌, ◌-◌, ◌^◌, ℕ, Bool, List, Option}
use Rattle.lid_base.specs.declared.outside.Fetch.{Fetch}
use Rattle.lid_top_clock.specs.Refetching.{FedBy}
use Rattle.lid_top_clock.specs.Runnings.{ClockRun}
use Rattle.lid_top_clock.specs.Stepping.{IsRunOf, IsFed}
use Rattle.lid_top_clock.proofs.Tellings.{IsTelling}
use Rattle.lid_top_clock.proofs.whole.tell_run.Given as goal

-- each run that begins so is told as far as its cycles go
abbrev pub invariant-loop-run : goal.invariant-loop-run
invariant-loop-run g l = record {
  telling : (r : ClockRun) (given : List (List Bool)) → IsRunOf r l.fn.staffed.task.now.placed.now.system l.fn.staffed.task.now.columns.now → IsFed r (g.S.Shelf.held l.fn.shelf l.fn.feed.name) l.fn.run l.fn.feed given
      → IsTelling g.O.Sink.written g.O.Sink.pieces r (g.S.Shelf.held l.shelf l.feed.name) l.run l.feed l.telling l.fn.out l.out;
  came : (r : ClockRun) (given : List (List Bool)) (first : Option (List Fetch)) → IsRunOf r l.fn.staffed.task.now.placed.now.system l.fn.staffed.task.now.columns.now → IsFed r (g.S.Shelf.held l.fn.shelf l.fn.feed.name) l.fn.run l.fn.feed given
      → FedBy g.S.Shelf.whole r l.fn.run.given first (g.S.Shelf.fetches l.fn.shelf) l.fn.feed
      → FedBy g.S.Shelf.whole r l.run.given first (g.S.Shelf.fetches l.shelf) l.feed × ((q : List ℕ) → g.S.Shelf.faults l.shelf q ≡ g.S.Shelf.faults l.fn.shelf q);
  name : l.feed.name ≡ l.fn.feed.name;
  kept : g.S.Shelf.held l.shelf ≡ g.S.Shelf.held l.fn.shelf;
  grows : (q : List ℕ) → g.S.Shelf.faults l.fn.shelf q ≤ g.S.Shelf.faults l.shelf q;
  rises : g.O.Sink.faults l.fn.out ≤ g.O.Sink.faults l.out;
  unrisen : g.O.Sink.faults l.out ≡ g.O.Sink.faults l.fn.out;
}

abbrev pub decreases-loop-run : goal.decreases-loop-run
decreases-loop-run g l = 2 ^ 64 - l.run.made
