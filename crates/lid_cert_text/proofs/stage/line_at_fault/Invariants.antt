use Rattle.std.proofs.Common.{◌≡◌, length}
use Rattle.lid_cert_text.specs.declared.stage.Stage.TheVariants.{Header}
use Rattle.lid_cert_text.specs.Texts.{line_at_fault}
use Rattle.lid_cert_text.proofs.stage.line_at_fault.Given as goal

abbrev pub invariant-loop-rest : goal.invariant-loop-rest
invariant-loop-rest l = line_at_fault l.stage l.last l.rest ≡ line_at_fault Header 0 l.fn.lines

abbrev pub decreases-loop-rest : goal.decreases-loop-rest
decreases-loop-rest l = length l.rest
