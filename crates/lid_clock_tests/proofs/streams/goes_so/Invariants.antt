use Rattle.lid_clock_tests.specs.Runs.{StreamGoes}
use Rattle.lid_clock_tests.proofs.streams.goes_so.Given as goal

abbrev pub invariant-loop : goal.invariant-loop
invariant-loop l = StreamGoes l.rows l.given l.stream
