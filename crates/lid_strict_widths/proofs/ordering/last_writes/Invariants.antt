use Rattle.std.proofs.Common.{◌≡◌, length, take}
use Rattle.lid_strict_widths.specs.Orders.{AreLastWrites}
use Rattle.lid_strict_widths.proofs.ordering.last_writes.Given as goal

abbrev pub invariant-loop-j : goal.invariant-loop-j
invariant-loop-j l = (length l.last.items ≡ l.nets) × AreLastWrites (take l.j l.steps) l.last.items
