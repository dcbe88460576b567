use Rattle.std.proofs.Common.{◌≡◌, length}
use Rattle.lid_vcd_form.specs.Text.{any_differs}
use Rattle.lid_vcd.proofs.writer.any_differs.Given as goal

abbrev pub invariant-loop-rest : goal.invariant-loop-rest
invariant-loop-rest l = any_differs l.before l.rest ≡ any_differs l.fn.olds l.fn.news

abbrev pub decreases-loop-rest : goal.decreases-loop-rest
decreases-loop-rest l = length l.rest
