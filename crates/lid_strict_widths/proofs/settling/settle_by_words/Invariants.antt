use Rattle.std.proofs.Common.{◌≡◌, length}
use Rattle.lid_strict_widths.specs.Steps.{reads_before}
use Rattle.lid_strict_widths.specs.Groups.{run_steps, run_covers, RightUpTo}
use Rattle.lid_strict_widths.proofs.settling.settle_by_words.Given as goal

abbrev pub invariant-loop-i : goal.invariant-loop-i
invariant-loop-i g l =
    (length l.bits ≡ length l.fn.bits)
    × (l.place ≡ reads_before (run_steps l.x) l.i)
    × RightUpTo (run_covers l.x) l.fn.group.start l.fn.bits l.i l.bits
