-- The walk goes on, and has as many actors.
use Rattle.lid_shell_tests.proofs.walks.steps_so.Goals as goal

pub loop-actor-preserved : goal.loop-actor-preserved
loop-actor-preserved c = let (m, st, walks, most) = c.loop-actor.invariant in (m, _, c.step.ensures.walks m st walks, most)
