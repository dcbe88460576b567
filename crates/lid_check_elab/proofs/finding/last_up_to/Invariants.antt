use Rattle.std.proofs.Common.{◌≤◌, ◌-◌, get_or}
use Rattle.lid_check_elab.proofs.finding.last_up_to.Given as goal

abbrev pub invariant-loop-i : goal.invariant-loop-i
invariant-loop-i l = get_or l.numbers (l.i - 1) 0 ≤ l.most
