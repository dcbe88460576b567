use Rattle.std.specs.Prelude.{◌≡◌, ℕ, ◌<◌, length, Some, slice_get, get_or}
use Rattle.lid_station.specs.declared.pair.Pair.{Pair}
use Rattle.lid_free.proofs.gathering.note_passed.Given as goal

abbrev pub invariant-loop-station : goal.invariant-loop-station
invariant-loop-station l = record {
  many : length l.passed ≡ length l.pairs;
  each : (s : ℕ) (p : Pair) → s < l.station → slice_get l.pairs s ≡ Some p → slice_get l.passed s ≡ Some p.taken;
}
