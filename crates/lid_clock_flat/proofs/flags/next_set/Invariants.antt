use Rattle.std.proofs.Common.{◌≡◌, ◌-◌, ◌<◌, ◌≤◌, ℕ, false, length}
use Rattle.std.specs.Prelude.{Some, slice_get}
use Rattle.lid_clock_flat.proofs.flags.next_set.Given as goal

-- no flag before this place is set
abbrev pub invariant-loop-place : goal.invariant-loop-place
invariant-loop-place l = record {
  past : l.start ≤ l.place;
  within : l.place ≤ length l.flags;
  between : (v : ℕ) → l.start ≤ v → v < l.place → slice_get l.flags v ≡ Some false;
}

abbrev pub decreases-loop-place : goal.decreases-loop-place
decreases-loop-place l = length l.flags - l.place
