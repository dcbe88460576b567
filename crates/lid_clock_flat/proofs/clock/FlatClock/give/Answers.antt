-- A row that is given changes the stream alone.
use Rattle.lid_clock_flat.proofs.clock.FlatClock.give.Goals as goal

pub returns : goal.returns
returns c l k g held next = record {
  ran = c.give.ensures l k g held.ran next;
  by = held.by;
  ascend = held.ascend;
  at = held.at;
  made_is = held.made_is;
  stalled_is = held.stalled_is;
  few = held.few;
  needed = held.needed;
}
