use Rattle.std.proofs.Common.{◌≡◌, ℕ, true, false, length, take}
use Rattle.lid_base.specs.Lists.{Among}
use Rattle.lid_strict_engine.specs.Rows.{bit_at}
use Rattle.lid_pearl.specs.Inside.{held}
use Rattle.lid_pearl.proofs.split.mark_held.Given as goal

abbrev pub invariant-loop-i : goal.invariant-loop-i
invariant-loop-i l =
    (length l.marks ≡ length l.fn.marks)
    × ((k : ℕ) → Among k (take l.i (held l.latches)) → bit_at l.marks k ≡ true)
    × ((k : ℕ) → bit_at l.marks k ≡ true → bit_at l.fn.marks k ≡ false → Among k (held l.latches))
