use Rattle.std.proofs.Common.{◌≡◌, length, take}
use Rattle.lid_strict_engine.specs.Rows.{bit_at}
use Rattle.lid_pearl.specs.Inside.{AreKnownMarks}
use Rattle.lid_pearl.proofs.split.mark_covers.Given as goal

abbrev pub invariant-loop-i : goal.invariant-loop-i
invariant-loop-i l = (length l.marks ≡ length l.fn.marks) × AreKnownMarks l.flat (take l.i l.flat.covers) (bit_at l.marks)
