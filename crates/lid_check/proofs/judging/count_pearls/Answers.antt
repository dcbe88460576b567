use Rattle.std.proofs.Common.{◌≡◌, ◌<◌, length, sym, ◌∙◌, ap, arith}
use Rattle.lid_design.specs.declared.Model.{Model}
use Rattle.lid_design.specs.Models.{insts_of}
use Rattle.lid_check_loops.proofs.Assembly.{root_insts}
use Rattle.lid_check_parts.proofs.Finding.{inst_count}
use Rattle.lid_check.proofs.judging.count_pearls.Goals as goal

pub returns-else-insts-eq0 : goal.returns-else-insts-eq0
returns-else-insts-eq0 c =
    let d = c.args.survey.now in
    let insts = root_insts d c.design-design.result.now c.as_slice.result.now c.index-as_slice-design.result c.design-design.ensures.same c.as_slice.ensures c.design-design.ensures.formed.rooted c.index-as_slice-design.is in
    let long : c.len-insts.result ≡ length (insts_of d d.root) = c.len-insts.ensures ∙ ap (λ (m : Model). length m.insts) (sym c.index-as_slice-design.is) ∙ ap length (sym insts) in
    let some = c.if-insts-eq0.false in
    let more : 0 < length (insts_of d d.root) = omega arith in
    long ∙ sym (inst_count d more)
