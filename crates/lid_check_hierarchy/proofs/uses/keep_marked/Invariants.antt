use Rattle.std.proofs.Common.{◌≡◌, ◌++◌, drop, filter}
use Rattle.lid_check_digraph.specs.Graphs.{flag}
use Rattle.lid_check_hierarchy.proofs.uses.keep_marked.Given as goal

abbrev pub invariant-loop-number : goal.invariant-loop-number
invariant-loop-number l = l.kept.items ++ filter (flag l.marks) (drop l.number-index l.numbers) ≡ filter (flag l.marks) l.numbers
