use Rattle.std.proofs.Common.{◌≤◌, drop, get_or}
use Rattle.std.specs.List.{AllByRecursion}
use Rattle.lid_strict_widths.proofs.ordering.are_past.Given as goal

abbrev pub invariant-loop-net : goal.invariant-loop-net
invariant-loop-net l = AllByRecursion (λ k. get_or l.last k 0 ≤ l.place) (drop l.net-index l.nets) → AllByRecursion (λ k. get_or l.last k 0 ≤ l.place) l.nets
