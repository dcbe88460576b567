use Rattle.std.proofs.Common.{ℕ, get_or, min, sym, ◌∙◌, ap, arith}
use Rattle.lid_design.specs.declared.Design.{Design}
use Rattle.lid_emit.proofs.Pearled.{root_count, over_root, over_insts}
use Rattle.lid_emit.proofs.pearls.sum_over_pearls.Goals as goal

pub returns-then-insts-eq0 : goal.returns-then-insts-eq0
returns-then-insts-eq0 c f are =
    let d = c.args.survey.now in
    let root = ap (λ (x : Design). get_or c.args.counts.now x.root 0) c.design.ensures.same in
    c.count_at.ensures ∙ root ∙ root_count d f c.args.counts.now are
    ∙ ap (λ (n : ℕ). min n 18446744073709551615) (sym (over_root d f (let is = c.inst_count-insts.ensures in let none = c.if-insts-eq0.true in omega arith)))

pub returns : goal.returns
returns c f are =
    let d = c.args.survey.now in
    c.sum_over_insts.ensures f are ∙ ap (λ (n : ℕ). min n 18446744073709551615) (sym (over_insts d f c.inst_count-insts.result c.inst_count-insts.ensures (let some = c.if-insts-eq0.false in omega arith)))
