-- Nobody is held where neither the source nor the sink is.
use Rattle.lid_clock.proofs.Cycling.{nobody_held}
use Rattle.lid_clock.proofs.stream.ClockStream.cycle.Goals as goal

pub returns-clause-ran : goal.returns-clause-ran
returns-clause-ran c = λ l k g ran nobody made. c.cycle_held.ensures.ran l k g ran (nobody_held l k nobody) made
