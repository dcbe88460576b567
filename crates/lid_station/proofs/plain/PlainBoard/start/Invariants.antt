use Rattle.std.proofs.Common.{◌≡◌, ℕ, length, get_or, Some, None, slice_get}
use Rattle.lid_station.specs.declared.pair.Pair.{Pair}
use Rattle.lid_station.specs.Starts.{IsStart}
use Rattle.lid_station.proofs.plain.PlainBoard.start.Given as goal

abbrev pub invariant-loop-station : goal.invariant-loop-station
invariant-loop-station l = record {
  many : length l.pairs.items ≡ l.station;
  each : (i : ℕ) → (p : Pair) → slice_get l.pairs.items i ≡ Some p → IsStart (get_or l.firsts i None) (get_or l.caps i 0) p;
}
