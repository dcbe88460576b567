use Rattle.std.proofs.Common.{◌≡◌, ◌+◌, ◌<◌, length, ◌++◌, ◌∷◌, [], get_or, refl, sym, ◌∙◌, subst, arith}
use Rattle.std.proofs.lemmas.List.{get_or_default}
use Rattle.lid_rate_ratio.specs.declared.lowest_terms.Ratio.{Ratio}
use Rattle.lid_size_forward.specs.ForwardParts.{AreRatiosBelow, no_ratio}
use Rattle.lid_size_forward.proofs.Taken.{label_low, ratios_push, ratios_copy}
use Rattle.lid_size_forward.proofs.forward.each_ratio.Goals as goal
use Rattle.lid_size_forward.proofs.forward.each_ratio.Goals.{then-label-v+in_ok-want, else-label-v}

pub index-requires : goal.index-requires
index-requires c = omega (arith, label_low c.args.graph.now c.args.stations c.requires.graph c.args.least.now c.requires.labels c.loop-v.v c.loop-v-test.true, c.if-label-v.false, c.loop-v.invariant.count, c.loop-v.wants.ok.0)

pub loop-v-preserved : goal.loop-v-preserved
loop-v-preserved c =
    let wants = c.loop-v.wants.items in
    let v = c.loop-v.v in
    subst (AreRatiosBelow c.args.graph.now c.args.stations (c.loop-v.v + 1)) (sym c.in_ok-push.ensures.items)
    (subst (λ (r : Ratio). AreRatiosBelow c.args.graph.now c.args.stations (c.loop-v.v + 1) (c.loop-v.wants.items ++ r ∷ [])) (let e : c.if-label-v.want ≡ c.if-label-v.want = refl in e) (elim c.if-label-v.branch [
      | then-label-v+in_ok-want w ↦
          let is = w.in_ok-want.ensures in
          subst (λ (r : Ratio). AreRatiosBelow c.args.graph.now c.args.stations (c.loop-v.v + 1) (c.loop-v.wants.items ++ r ∷ [])) (sym w.want-is)
          (ratios_push c.args.graph.now c.args.stations c.loop-v.v c.loop-v.wants.items w.in_ok-want.want c.loop-v.invariant is.is is.small_p is.small_q)
      | else-label-v w ↦
          let low : get_or c.args.least.now c.loop-v.v 0 < length c.loop-v.wants.items = omega (arith, label_low c.args.graph.now c.args.stations c.requires.graph c.args.least.now c.requires.labels c.loop-v.v c.loop-v-test.true, w.if-label-v.false, c.loop-v.invariant.count) in
          subst (λ (r : Ratio). AreRatiosBelow c.args.graph.now c.args.stations (c.loop-v.v + 1) (c.loop-v.wants.items ++ r ∷ [])) (sym w.want-is)
          (ratios_copy c.args.graph.now c.args.stations c.requires.graph c.args.least.now c.requires.labels c.loop-v.v c.loop-v.wants.items w.index.result.now c.loop-v-test.true w.if-label-v.false (w.index.ensures ∙ get_or_default c.loop-v.wants.items (get_or c.args.least.now c.loop-v.v 0) w.index.result.now no_ratio low) c.loop-v.invariant)
    ]))
