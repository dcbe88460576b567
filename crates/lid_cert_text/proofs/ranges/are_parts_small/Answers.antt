use Rattle.std.proofs.Common.{subst, arith}
use Rattle.std.specs.List.{All}
use Rattle.std.proofs.lemmas.List.{take_all}
use Rattle.std.proofs.lemmas.List.Elements.{All-more}
use Rattle.lid_cert_text.specs.Printed.{IsPartSmall}
use Rattle.lid_cert_text.proofs.ranges.are_parts_small.Goals as goal

pub loop-part-preserved : goal.loop-part-preserved
loop-part-preserved c = All-more IsPartSmall c.args.parts.now c.loop-part.part-index c.part-item.result (omega arith) c.loop-part.invariant (subst IsPartSmall c.part-item.is c.is_part_small.ensures)

pub returns : goal.returns
returns c = subst (All IsPartSmall) (take_all c.loop-part.part-index c.args.parts.now (omega arith)) c.loop-part.invariant
