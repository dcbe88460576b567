use Rattle.std.proofs.Common.{◌≡◌, not, map, find, drop}
use Rattle.lid_check_rules.specs.Conditions.{same_edge}
use Rattle.lid_check_rules.specs.Edges.{latch_seen}
use Rattle.lid_check_rules.proofs.edges.find_other.Given as goal

abbrev pub invariant-loop-latch : goal.invariant-loop-latch
invariant-loop-latch l = find (λ t. not (same_edge l.rises t.rises)) (map latch_seen (drop l.latch-index l.latches)) ≡ find (λ t. not (same_edge l.rises t.rises)) (map latch_seen l.latches)
