use Rattle.std.proofs.Common.{◌≡◌, ℕ, ◌+◌, ◌-◌, ◌/◌, ◌^◌, ◌<◌, get_or}
use Rattle.std.specs.List.{All}
use Rattle.std.specs.Mem.Slots.{slots_items}
use Rattle.lid_board.specs.Halves.{word_half}
use Rattle.lid_board.proofs.closing.copy_places.Given as goal

-- the places below are copied
abbrev pub invariant-loop-place : goal.invariant-loop-place
invariant-loop-place l = record {
  each : (k : ℕ) → k < l.place → get_or l.places k 0 ≡ word_half k (get_or (slots_items l.closed.words) (l.first + k / 2) 0) - 2147483648;
  small : All (λ token. token < 2 ^ 31) l.places;
}
