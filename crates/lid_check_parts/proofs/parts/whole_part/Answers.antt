use Rattle.std.proofs.Common.{◌+◌, ◌≤◌, length, sym, ◌∙◌, ap, subst, arith}
use Rattle.lid_design.proofs.Reached.{root_reached}
use Rattle.lid_design.specs.declared.Design.{Design}
use Rattle.lid_design.specs.Models.{IsReached, data_inputs_of}
use Rattle.lid_check_drivers.specs.Judged.{IsJudged}
use Rattle.lid_check_parts.specs.PearlParts.{outputs_of}
use Rattle.lid_check_parts.proofs.Finding.{whole_few, whole_is}
use Rattle.lid_check_parts.proofs.parts.whole_part.Goals as goal

pub part_of-requires-clause-reached : goal.part_of-requires-clause-reached
part_of-requires-clause-reached c =
    let j = c.judged-judged.result.now in
    subst (λ (e : Design). IsReached j e.root) (sym c.design.ensures.same) (root_reached j)

pub part_of-requires-clause-few : goal.part_of-requires-clause-few
part_of-requires-clause-few c =
    let d = c.args.columns.now.design in
    let same = c.judged-judged.ensures.same in
    let judged = subst (λ (e : Design). IsJudged e) same c.design.ensures.judged in
    let least = whole_few d judged c.args.columns.now.drivers c.args.columns.now.starts c.judged-judged.ensures.elaborated c.requires.apart c.requires.none in
    let few = c.judged-judged.ensures.few in
    let small : length (data_inputs_of d d.root) + length (outputs_of d d.root) ≤ 1048576 = omega arith in
    subst (λ (j : Design). length (data_inputs_of j c.design.result.now.root) + length (outputs_of j c.design.result.now.root) ≤ 1048576) (sym same)
    (subst (λ (e : Design). length (data_inputs_of d e.root) + length (outputs_of d e.root) ≤ 1048576) (sym (c.design.ensures.same ∙ same)) small)

pub returns : goal.returns
returns c =
    let d = c.args.columns.now.design in
    let same = c.judged-judged.ensures.same in
    let root = c.design.ensures.same ∙ same in
    let judged = subst (λ (e : Design). IsJudged e) same c.design.ensures.judged in
    let made = c.part_of.ensures in
    whole_is d judged c.args.columns.now.drivers c.args.columns.now.starts c.judged-judged.ensures.elaborated c.requires.apart c.requires.none c.part_of.result made.start
    (made.nets ∙ ap length c.drivers.ensures)
    (made.inputs ∙ ap (λ (j : Design). length (data_inputs_of j c.design.result.now.root)) same ∙ ap (λ (e : Design). length (data_inputs_of d e.root)) root)
    (made.outputs ∙ ap (λ (j : Design). length (outputs_of j c.design.result.now.root)) same ∙ ap (λ (e : Design). length (outputs_of d e.root)) root)
