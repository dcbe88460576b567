use Rattle.std.proofs.Common.{◌+◌, ◌<◌, length, get_or, Vec, Global, sym, ◌∙◌, ap, subst, arith}
use Rattle.std.proofs.lemmas.List.{get_or_default}
use Rattle.lid_rate_ratio.specs.declared.lowest_terms.Ratio.{Ratio}
use Rattle.lid_size_forward.specs.ForwardParts.{no_ratio}
use Rattle.lid_size_forward.specs.ForwardWalks.{AreWalksBelow}
use Rattle.lid_size_forward.proofs.ForwardShown.{walks_push, walks_copy}
use Rattle.lid_size_forward.proofs.Taken.{label_low}
use Rattle.lid_size_forward.proofs.ratios.walk_ratios.Goals as goal
use Rattle.lid_size_forward.proofs.ratios.walk_ratios.Goals.{then-label-v+in-Some+in_ok-push, else-label-v+in_ok-push-2}

pub index-requires : goal.index-requires
index-requires c = omega (arith, label_low c.args.graph.now c.args.stations c.requires.graph c.args.least.now c.requires.labels c.loop-v.v c.loop-v-test.true, c.if-label-v.false, c.loop-v.invariant.count, c.loop-v.wants.ok.0)

pub loop-v-preserved : goal.loop-v-preserved
loop-v-preserved c = elim c.if-label-v.branch [
  | then-label-v+in-Some+in_ok-push w ↦
      subst (AreWalksBelow c.args.graph.now c.args.stations c.args.least.now (c.loop-v.v + 1)) (sym (ap (λ (v : Vec Ratio Global). v.items) w.wants-is ∙ w.in_ok-push.ensures.items))
      (walks_push c.args.graph.now c.args.stations c.requires.graph c.args.least.now c.requires.labels c.loop-v.v c.loop-v.wants.items w.in-Some.want c.loop-v-test.true c.loop-v.invariant w.if-label-v.true w.in-Some.ensures.some)
  | else-label-v+in_ok-push-2 w ↦
      let low : get_or c.args.least.now c.loop-v.v 0 < length c.loop-v.wants.items = omega (arith, label_low c.args.graph.now c.args.stations c.requires.graph c.args.least.now c.requires.labels c.loop-v.v c.loop-v-test.true, w.if-label-v.false, c.loop-v.invariant.count) in
      subst (AreWalksBelow c.args.graph.now c.args.stations c.args.least.now (c.loop-v.v + 1)) (sym (ap (λ (v : Vec Ratio Global). v.items) w.wants-is ∙ w.in_ok-push-2.ensures.items))
      (walks_copy c.args.graph.now c.args.stations c.requires.graph c.args.least.now c.requires.labels c.loop-v.v c.loop-v.wants.items w.index.result.now c.loop-v-test.true c.loop-v.invariant w.if-label-v.false (w.index.ensures ∙ get_or_default c.loop-v.wants.items (get_or c.args.least.now c.loop-v.v 0) w.index.result.now no_ratio low))
]
