use Rattle.std.proofs.Common.{◌≡◌, drop}
use Rattle.std.specs.List.{enumerate_from}
use Rattle.lid_check_rules.specs.Conditions.{first_told, in_insts, unknown_at}
use Rattle.lid_check_rules.proofs.unknown.find_unknown_in.Given as goal

abbrev pub invariant-loop-i : goal.invariant-loop-i
invariant-loop-i l = first_told (λ p. unknown_at l.uses l.model p.0 p.1) (enumerate_from l.i (drop l.i l.insts)) ≡ in_insts (unknown_at l.uses l.model) l.model
