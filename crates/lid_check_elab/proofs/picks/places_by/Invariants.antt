use Rattle.std.proofs.Common.{◌≡◌, ◌<◌, ℕ, Some, length, slice_get, slice_index_or}
use Rattle.lid_check_elab.proofs.picks.places_by.Given as goal

abbrev pub invariant-loop-i : goal.invariant-loop-i
invariant-loop-i l = record {
  long : length l.places.items ≡ l.count;
  each : (i n : ℕ) → i < l.i → slice_get l.numbers i ≡ Some n → n < l.count → slice_get l.numbers (slice_index_or l.places.items n 0) ≡ Some n;
}
