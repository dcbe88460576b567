use Rattle.std.proofs.Common.{ℕ, List, ◌+◌, get_or, Vec, Global, sym, ◌∙◌, ap, subst}
use Rattle.lid_cert.specs.declared.cert.Part.{Part}
use Rattle.lid_rate.specs.Rates.{AreParts}
use Rattle.lid_rate.proofs.Found.{parts_start, parts_push, parts_skip}
use Rattle.lid_rate.proofs.Grouped.{own_component}
use Rattle.lid_rate.proofs.finding.all_parts.Goals as goal
use Rattle.lid_rate.proofs.finding.all_parts.Goals.{then-least-v+in_ok-part+in_ok-push, else-least-v}

pub loop-v-init : goal.loop-v-init
loop-v-init c = subst (AreParts c.args.graph.now c.args.least.now 0) (sym c.new-parts.ensures.items) (parts_start c.args.graph.now c.requires.graph c.args.least.now c.requires.labels)

pub loop-v-preserved : goal.loop-v-preserved
loop-v-preserved c = elim c.if-least-v.branch [
  | then-least-v+in_ok-part+in_ok-push w ↦ subst (AreParts c.args.graph.now c.args.least.now (c.loop-v.v + 1)) (sym (ap (λ (v : Vec Part Global). v.items) w.parts-is ∙ w.in_ok-push.ensures.items)) (parts_push c.args.graph.now c.requires.graph c.args.least.now c.requires.labels c.loop-v.v c.loop-v.parts.items w.in_ok-part.part c.loop-v-test.true w.if-least-v.true (w.in_ok-part.ensures c.args.least.now c.loop-v.v (own_component c.args.graph.now c.args.least.now c.args.sorted.now.nodes.items c.args.sorted.now.edges.items c.args.sorted.now.loops.items c.loop-v.v _ _ _ c.args.sorted.now.loops c.requires.labels c.requires.sorted c.loop-v-test.true w.if-least-v.true
      (w.places_of-inside.ensures c.args.sorted.now.loops ∙ ap (λ (l : List (Vec ℕ Global)). (get_or l c.loop-v.v c.args.sorted.now.loops).items) w.deref.ensures.value)
      (w.places_of-edges.ensures c.args.sorted.now.loops ∙ ap (λ (l : List (Vec ℕ Global)). (get_or l c.loop-v.v c.args.sorted.now.loops).items) w.deref-then-least-v.ensures.value)
      w.index-first.ensures)) c.loop-v.invariant)
  | else-least-v w ↦ subst (AreParts c.args.graph.now c.args.least.now (c.loop-v.v + 1)) (sym (ap (λ (v : Vec Part Global). v.items) w.parts-is)) (parts_skip c.args.graph.now c.requires.graph c.args.least.now c.requires.labels c.loop-v.v c.loop-v.parts.items w.if-least-v.false c.loop-v.invariant)
]

pub part_of-requires-clause-own : goal.part_of-requires-clause-own
part_of-requires-clause-own c = (
  c.args.least.now,
  c.loop-v.v,
  (own_component c.args.graph.now c.args.least.now c.args.sorted.now.nodes.items c.args.sorted.now.edges.items c.args.sorted.now.loops.items c.loop-v.v _ _ _ c.args.sorted.now.loops c.requires.labels c.requires.sorted c.loop-v-test.true c.if-least-v.true
      (c.places_of-inside.ensures c.args.sorted.now.loops ∙ ap (λ (l : List (Vec ℕ Global)). (get_or l c.loop-v.v c.args.sorted.now.loops).items) c.deref.ensures.value)
      (c.places_of-edges.ensures c.args.sorted.now.loops ∙ ap (λ (l : List (Vec ℕ Global)). (get_or l c.loop-v.v c.args.sorted.now.loops).items) c.deref-then-least-v.ensures.value)
      c.index-first.ensures),
)
