use Rattle.std.proofs.Common.{take}
use Rattle.lid_check_digraph.specs.Searches.{Marks}
use Rattle.lid_check_digraph.proofs.reachability.mark.Given as goal

abbrev pub invariant-loop-number : goal.invariant-loop-number
invariant-loop-number l = Marks (take l.number-index l.numbers) l.initial.seen l.initial.todo.items l.seen l.todo.items
