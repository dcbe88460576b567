use Rattle.lid_board.specs.Starts.{AreLaid, AreFirsts}
use Rattle.lid_board.proofs.starts.lay.Given as goal

abbrev pub invariant-loop-station : goal.invariant-loop-station
invariant-loop-station l = record {
  words : AreLaid l.firsts l.caps l.words.items l.station;
  starts : AreFirsts l.caps l.starts.items l.station;
}
