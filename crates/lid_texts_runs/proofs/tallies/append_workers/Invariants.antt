use Rattle.std.proofs.Common.{◌≡◌, ◌+◌, ◌++◌, length}
use Rattle.lid_base.specs.Lists.{Keeps}
use Rattle.lid_texts_runs.specs.Runs.{workers_text}
use Rattle.lid_texts_runs.proofs.tallies.append_workers.Given as goal

abbrev pub invariant-loop-rest : goal.invariant-loop-rest
invariant-loop-rest l = record {
  done : l.into.items ++ workers_text l.worker l.rest ≡ l.fn.into.items ++ workers_text 0 l.tallies;
  kept : Keeps l.fn.into.items l.into.items;
  long : l.worker + length l.rest ≡ length l.tallies;
}

abbrev pub decreases-loop-rest : goal.decreases-loop-rest
decreases-loop-rest l = length l.rest
