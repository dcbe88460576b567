use Rattle.std.proofs.Common.{arith}
use Rattle.lid_strict_tables.specs.Wide.{agrees_at}
use Rattle.lid_strict_tables.proofs.Words.{found_next}
use Rattle.lid_strict_tables.proofs.word.found_at.Goals as goal

pub loop-k-preserved : goal.loop-k-preserved
loop-k-preserved c i h =
    found_next (agrees_at c.args.high i) c.args.cubes.now c.loop-k.k c.loop-k.found c.found_by-found.result i (omega arith) (c.found_by-found.ensures i h) (c.loop-k.invariant i h)
