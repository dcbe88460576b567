use Rattle.std.proofs.Common.{ℕ, below_more, get_or}
use Rattle.lid_rate.specs.Rates.{IsLoopAt}
use Rattle.lid_rate.proofs.showing.are_loops_shown.Goals as goal

pub loop-v-preserved : goal.loop-v-preserved
loop-v-preserved c =
    below_more (λ (w : ℕ). IsLoopAt c.args.graph.now w (get_or c.args.loops.now w 0)) c.loop-v.v c.loop-v.invariant (c.is_loop_at.ensures.0 c.if-not-is_loop_at.false)
