use Rattle.std.proofs.Common.{◌≡◌, length}
use Rattle.std.specs.List.{All}
use Rattle.lid_shell.proofs.building.make_rows.Given as goal

abbrev pub invariant-loop-i : goal.invariant-loop-i
invariant-loop-i l = record { many : length l.made.items ≡ l._i; wide : All (λ row. length row ≡ l.width) l.made.items }
