use Rattle.lid_size_forward.proofs.ForwardShown.{met_at, rule_push}
use Rattle.lid_size_forward.proofs.ratios.meet_rule.Goals as goal
use Rattle.lid_size_forward.proofs.ratios.meet_rule.Goals.{else-is_forward-via-then-is_forward+else-not-is_met, else-is_forward-via-else-is_forward}

pub loop-k-preserved : goal.loop-k-preserved
loop-k-preserved c = rule_push c.args.graph.now c.args.stations c.args.wants.now c.args.labels.now c.loop-k.k c.loop-k.invariant (elim c.else-is_forward.branch [
  | else-is_forward-via-then-is_forward+else-not-is_met w ↦ λ forth. met_at c.args.graph.now c.args.wants.now c.args.labels.now c.loop-k.k c.edge-along.result c.edge-along.ensures (w.is_met.ensures.0 w.if-not-is_met.false)
  | else-is_forward-via-else-is_forward w ↦ λ forth. absurd (let yes = c.is_forward.ensures.1 forth in let no = w.if-is_forward.false in cc)
])
