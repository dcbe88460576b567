use Rattle.std.proofs.Common.{subst, arith}
use Rattle.std.specs.List.{All}
use Rattle.std.proofs.lemmas.List.{take_all}
use Rattle.std.proofs.lemmas.List.Elements.{All-more}
use Rattle.lid_cert_text.specs.Printed.{IsSmallVia}
use Rattle.lid_cert_text.proofs.ranges.are_vias_small.Goals as goal

pub loop-via-preserved : goal.loop-via-preserved
loop-via-preserved c = All-more IsSmallVia c.args.vias.now c.loop-via.via-index _ (omega arith) c.loop-via.invariant c.is_via_small.ensures

pub returns : goal.returns
returns c = subst (All IsSmallVia) (take_all c.loop-via.via-index c.args.vias.now (omega arith)) c.loop-via.invariant
