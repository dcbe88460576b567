-- A sweep leaves all actors at rest.
use Rattle.lid_shell_tests.proofs.walks.settles.Goals as goal

pub returns-then-settled : goal.returns-then-settled
returns-then-settled c = let (m, st, walks, rest) = c.loop-sweep.invariant in (m, st, walks)

pub sweep-fired-requires : goal.sweep-fired-requires
sweep-fired-requires c = c.loop-sweep.invariant

pub loop-sweep-preserved : goal.loop-sweep-preserved
loop-sweep-preserved c = let (m, st, walks, rest) = c.loop-sweep.invariant in (m, _, c.sweep-fired.ensures.walks m st walks rest, c.sweep-fired.ensures.rest m st walks rest)

pub returns : goal.returns
returns c = let (m, st, walks, rest) = c.loop-sweep.invariant in (m, st, walks)
