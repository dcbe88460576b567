use Rattle.std.proofs.Common.{◌≡◌, ◌+◌, ◌++◌, length}
use Rattle.lid_base.specs.Lists.{Keeps}
use Rattle.lid_texts_runs.specs.Runs.{fired_text}
use Rattle.lid_texts_runs.proofs.cycles.append_fired.Given as goal

abbrev pub invariant-loop-rest : goal.invariant-loop-rest
invariant-loop-rest l = record {
  done : l.into.items ++ fired_text l.count l.node l.rest ≡ l.fn.into.items ++ fired_text l.count 0 l.fired;
  kept : Keeps l.fn.into.items l.into.items;
  long : l.node + length l.rest ≡ length l.fired;
  count : l.count ≡ length l.fired;
}

abbrev pub decreases-loop-rest : goal.decreases-loop-rest
decreases-loop-rest l = length l.rest
