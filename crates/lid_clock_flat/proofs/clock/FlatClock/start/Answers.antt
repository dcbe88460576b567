-- No cycle was made.
use Rattle.std.proofs.Common.{refl, arith}
use Rattle.lid_stall.proofs.Delays.{begun, none_stalled}
use Rattle.lid_clock_flat.proofs.clock.FlatClock.start.Goals as goal

pub returns : goal.returns
returns c l so by = record {
  ran = c.in_ok-run.ensures l so;
  by = by;
  ascend = c.requires.stalls;
  at = begun c.args.stalls;
  made_is = refl;
  stalled_is = none_stalled l;
  few = omega arith;
  needed = λ j less. absurd (omega arith);
}
