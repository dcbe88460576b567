use Rattle.std.proofs.Common.{◌≡◌, drop}
use Rattle.lid_stall_text.specs.Stalls.{lines_reading}
use Rattle.lid_stall_text.proofs.stalls.push_lines.Given as goal

abbrev pub invariant-loop-line : goal.invariant-loop-line
invariant-loop-line l = lines_reading l.stalls.items (drop l.line-index l.lines) ≡ lines_reading l.fn.stalls.items l.lines
