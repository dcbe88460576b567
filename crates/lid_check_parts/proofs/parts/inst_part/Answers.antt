use Rattle.std.proofs.Common.{◌≡◌, ◌+◌, ◌-◌, ◌≤◌, ℕ, List, length, Some, None, slice_index_or, sym, ◌∙◌, ap, subst, arith}
use Rattle.lid_design.proofs.Reached.{root_reached}
use Rattle.lid_design.specs.declared.Design.{Design}
use Rattle.lid_design.specs.Models.{data_inputs_of, instance_number}
use Rattle.lid_check_drivers.specs.Judged.{IsJudged}
use Rattle.lid_check_drivers.proofs.Wired.{some_of_is}
use Rattle.lid_check_parts.specs.PearlParts.{outputs_of}
use Rattle.lid_check_parts.proofs.Finding.{starts_first, inst_reached, inst_few, inst_is}
use Rattle.lid_check_parts.proofs.parts.inst_part.Goals as goal

pub overflow_sub-end : goal.overflow_sub-end
overflow_sub-end c =
    let d = c.args.columns.now.design in
    let same = c.judged-judged.ensures.same in
    let judged = subst (λ (e : Design). IsJudged e) same c.design.ensures.judged in
    let names : instance_number d c.args.i d.root ≡ Some c.in-Some.model = sym (c.in-Some.ensures ∙ ap (λ (j : Design). instance_number j c.args.i c.design.result.now.root) same ∙ ap (λ (e : Design). instance_number d c.args.i e.root) (c.design.ensures.same ∙ same)) in
    let h = starts_first d judged c.args.columns.now.drivers c.args.columns.now.starts c.judged-judged.ensures.elaborated c.requires.apart c.args.i c.in-Some.model c.requires.there names in
    let start : slice_index_or c.starts.result.now c.args.i 0 ≡ slice_index_or c.args.columns.now.starts c.args.i 0 = ap (λ (xs : List ℕ). slice_index_or xs c.args.i 0) c.starts.ensures in
    let end = c.end_of-end.ensures in
    omega arith

pub part_of-requires-clause-reached : goal.part_of-requires-clause-reached
part_of-requires-clause-reached c =
    let j = c.judged-judged.result.now in
    let names : instance_number j c.args.i j.root ≡ Some c.in-Some.model = sym (c.in-Some.ensures ∙ ap (λ (e : Design). instance_number j c.args.i e.root) c.design.ensures.same) in
    inst_reached j c.args.i c.in-Some.model names

pub part_of-requires-clause-few : goal.part_of-requires-clause-few
part_of-requires-clause-few c =
    let d = c.args.columns.now.design in
    let same = c.judged-judged.ensures.same in
    let judged = subst (λ (e : Design). IsJudged e) same c.design.ensures.judged in
    let names : instance_number d c.args.i d.root ≡ Some c.in-Some.model = sym (c.in-Some.ensures ∙ ap (λ (j : Design). instance_number j c.args.i c.design.result.now.root) same ∙ ap (λ (e : Design). instance_number d c.args.i e.root) (c.design.ensures.same ∙ same)) in
    let least = inst_few d judged c.args.columns.now.drivers c.args.columns.now.starts c.judged-judged.ensures.elaborated c.requires.apart c.args.i c.in-Some.model c.requires.there names in
    let few = c.judged-judged.ensures.few in
    let small : length (data_inputs_of d c.in-Some.model) + length (outputs_of d c.in-Some.model) ≤ 1048576 = omega arith in
    subst (λ (j : Design). length (data_inputs_of j c.in-Some.model) + length (outputs_of j c.in-Some.model) ≤ 1048576) (sym same) small

pub unreachable-requires : goal.unreachable-requires
unreachable-requires c =
    let d = c.args.columns.now.design in
    let same = c.judged-judged.ensures.same in
    let judged = subst (λ (e : Design). IsJudged e) same c.design.ensures.judged in
    let none : None ≡ instance_number d c.args.i d.root = c.in-None.ensures ∙ ap (λ (j : Design). instance_number j c.args.i c.design.result.now.root) same ∙ ap (λ (e : Design). instance_number d c.args.i e.root) (c.design.ensures.same ∙ same) in
    let insts = c.judged-judged.ensures.elaborated.insts in
    let there = c.requires.there in
    let some = some_of_is (instance_number d c.args.i d.root) (judged.known d.root c.args.i (root_reached d) (omega arith)) in
    let e : None ≡ Some some.0 = none ∙ some.1 in
    cc

pub returns : goal.returns
returns c =
    let d = c.args.columns.now.design in
    let same = c.judged-judged.ensures.same in
    let judged = subst (λ (e : Design). IsJudged e) same c.design.ensures.judged in
    let model = c.in-Some.model in
    let names : instance_number d c.args.i d.root ≡ Some model = sym (c.in-Some.ensures ∙ ap (λ (j : Design). instance_number j c.args.i c.design.result.now.root) same ∙ ap (λ (e : Design). instance_number d c.args.i e.root) (c.design.ensures.same ∙ same)) in
    let start : slice_index_or c.starts.result.now c.args.i 0 ≡ slice_index_or c.args.columns.now.starts c.args.i 0 = ap (λ (xs : List ℕ). slice_index_or xs c.args.i 0) c.starts.ensures in
    let end = c.end_of-end.ensures in
    let made = c.part_of.ensures in
    inst_is d judged c.args.columns.now.drivers c.args.columns.now.starts c.judged-judged.ensures.elaborated c.requires.apart c.args.i model c.requires.there names c.part_of.result
    (made.start ∙ start)
    (made.nets ∙ ap (λ (n : ℕ). n - slice_index_or c.starts.result.now c.args.i 0) end ∙ ap (λ (n : ℕ). slice_index_or c.args.columns.now.starts (c.args.i + 1) (length c.args.columns.now.drivers) - n) start)
    (made.inputs ∙ ap (λ (j : Design). length (data_inputs_of j model)) same)
    (made.outputs ∙ ap (λ (j : Design). length (outputs_of j model)) same)
