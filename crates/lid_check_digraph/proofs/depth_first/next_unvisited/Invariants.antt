use Rattle.std.proofs.Common.{◌-◌, length}
use Rattle.lid_check_digraph.proofs.depth_first.next_unvisited.Given as goal

abbrev pub decreases-loop-next : goal.decreases-loop-next
decreases-loop-next l = length l.numbers - l.next
