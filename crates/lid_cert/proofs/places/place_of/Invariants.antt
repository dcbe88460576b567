use Rattle.std.proofs.Common.{ℕ, ◌-◌, ◌<◌, ◌≤◌, length, get_or}
use Rattle.lid_cert.proofs.places.place_of.Given as goal

abbrev pub invariant-loop-low : goal.invariant-loop-low
invariant-loop-low l = record {
  within : l.high ≤ length l.numbers;
  below : (k : ℕ) → k < l.low → get_or l.numbers k 0 < l.wanted;
  above : (k : ℕ) → l.high ≤ k → k < length l.numbers → l.wanted < get_or l.numbers k 0;
}

abbrev pub decreases-loop-low : goal.decreases-loop-low
decreases-loop-low l = l.high - l.low
