use Rattle.std.proofs.Common.{◌≡◌, ◌==◌, ℕ, false, List, length, sym, ◌∙◌, ap, subst}
use Rattle.lid_design.proofs.Reached.{root_reached}
use Rattle.lid_design.specs.declared.Design.{Design}
use Rattle.lid_design.specs.declared.Inst.{Inst}
use Rattle.lid_design.specs.declared.Model.{Model}
use Rattle.lid_design.specs.Models.{IsReached, insts_of}
use Rattle.lid_design.specs.Elaboration.{model_nets}
use Rattle.lid_check_loops.proofs.Assembly.{root_insts, cut_some}
use Rattle.lid_check_loops.proofs.outputs.count_cut.Goals as goal

pub count_nets-requires : goal.count_nets-requires
count_nets-requires c = subst (λ (k : ℕ). IsReached c.args.survey.now k) (sym (ap (λ (d : Design). d.root) c.design-design.ensures.same)) (root_reached c.args.survey.now)

pub returns : goal.returns
returns c =
    let d = c.args.survey.now in
    let insts = root_insts d c.design-design.result.now c.as_slice.result.now c.index-as_slice-root.result c.design-design.ensures.same c.as_slice.ensures c.design-design.ensures.formed.rooted c.index-as_slice-root.is in
    let empty : (length (insts_of d d.root) == 0) ≡ false = ap (λ (xs : List Inst). length xs == 0) insts ∙ ap (λ (m : Model). length m.insts == 0) c.index-as_slice-root.is ∙ sym c.is_empty.ensures ∙ c.if-is_empty.false in
    c.count_nets.ensures.value
    ∙ ap (λ (k : ℕ). length (model_nets d k)) (ap (λ (e : Design). e.root) c.design-design.ensures.same)
    ∙ sym (cut_some d empty)
