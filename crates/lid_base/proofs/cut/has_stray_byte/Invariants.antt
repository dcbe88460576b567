use Rattle.std.proofs.Common.{◌≡◌, ◌||◌, not, drop}
use Rattle.std.specs.List.{list_any}
use Rattle.lid_base.specs.Lines.{is_allowed}
use Rattle.lid_base.proofs.cut.has_stray_byte.Given as goal

abbrev pub invariant-loop-b : goal.invariant-loop-b
invariant-loop-b l = (l.has_stray || list_any (λ b. not (is_allowed b)) (drop l.b-index l.bytes)) ≡ list_any (λ b. not (is_allowed b)) l.bytes
