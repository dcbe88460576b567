use Rattle.std.proofs.Common.{◌∙◌, ap, Vec, Global}
use Rattle.lid_graph.specs.declared.graph.Edge.{Edge}
use Rattle.lid_size_forward.proofs.Taken.{forths_push, forths_skip}
use Rattle.lid_size_forward.proofs.forward.push_forths.Goals as goal
use Rattle.lid_size_forward.proofs.forward.push_forths.Goals.{then-least-forth+in_ok-push, else-least-forth}

pub loop-station-preserved : goal.loop-station-preserved
loop-station-preserved c = elim c.if-least-forth.branch [
  | then-least-forth+in_ok-push w ↦ ap (λ (v : Vec Edge Global). v.items) w.edges-is ∙ (w.in_ok-push.ensures.items ∙ forths_push c.args.graph.now c.args.least.now c.args.label c.loop-station.station c.args.edges.now.items c.loop-station.edges.items c.edge-forth.result c.edge-forth.ensures w.if-least-forth.true c.loop-station.invariant)
  | else-least-forth w ↦ ap (λ (v : Vec Edge Global). v.items) w.edges-is ∙ forths_skip c.args.graph.now c.args.least.now c.args.label c.loop-station.station c.args.edges.now.items c.loop-station.edges.items c.edge-forth.result c.edge-forth.ensures w.if-least-forth.false c.loop-station.invariant
]
