use Rattle.std.proofs.Common.{◌∷◌, [], zero-add}
use Rattle.std.proofs.lemmas.List.FromFn.{sum_by-map-range_with_len_more}
use Rattle.lid_emit_meaning.specs.Sizes.{at_path}
use Rattle.lid_emit.proofs.Adding.{cut_sum}
use Rattle.lid_emit.proofs.pearls.sum_over_insts.Goals as goal

pub loop-i-preserved : goal.loop-i-preserved
loop-i-preserved c f are =
    let d = c.args.survey.now in
    let i = c.loop-i.i in
    cut_sum c.loop-i.sum c.count_of_inst.result c.saturating_add-sum.result _ (at_path d f (i ∷ [])) _ (c.loop-i.invariant f are) (c.count_of_inst.ensures f are) c.saturating_add-sum.ensures
    (sum_by-map-range_with_len_more (at_path d f) (λ i. i ∷ []) 0 i i (zero-add i))
