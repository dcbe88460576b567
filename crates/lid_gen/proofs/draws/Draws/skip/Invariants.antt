use Rattle.std.proofs.Common.{◌≡◌}
use Rattle.lid_gen.specs.Draws.{state_after}
use Rattle.lid_gen.proofs.draws.Draws.skip.Given as goal

abbrev pub invariant-loop : goal.invariant-loop
invariant-loop l = l.self.state ≡ state_after l.counter l.fn.self.state
