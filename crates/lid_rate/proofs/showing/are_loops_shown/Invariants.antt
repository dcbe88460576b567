use Rattle.std.proofs.Common.{ℕ, ◌<◌, get_or}
use Rattle.lid_rate.specs.Rates.{IsLoopAt}
use Rattle.lid_rate.proofs.showing.are_loops_shown.Given as goal

abbrev pub invariant-loop-v : goal.invariant-loop-v
invariant-loop-v l = (w : ℕ) → w < l.v → IsLoopAt l.graph w (get_or l.loops w 0)
