use Rattle.std.proofs.Common.{◌≡◌, ◌≤◌, ◌<◌, ◌↔◌, ℕ, Bool, true, List, IfOk, length, map, sym, subst, ◌∙◌, ap}
use Rattle.std.specs.List.{AllByRecursion}
use Rattle.lid_design.specs.declared.Design.{Design}
use Rattle.lid_check_digraph.specs.Graphs.{flag}
use Rattle.lid_check_elab.specs.Elaborations.{shown_driver, IsElaborated}
use Rattle.lid_check_loops.specs.declared.pearls.Pearl.{Pearl}
use Rattle.lid_check_loops.specs.Pearls.{IsFittingPearl, CutsOff}
use Rattle.lid_check_loops.specs.Flaws.{FindsDependence}
use Rattle.lid_check_loops.proofs.Cutting.{are_in}
use Rattle.lid_check_loops.proofs.outputs.find_dependence.Goals as goal

pub list_pearls-requires : goal.list_pearls-requires
list_pearls-requires c =
    let seen = c.survey-survey.ensures.same ∙ c.judged.ensures.same in
    let is = subst (λ (d : Design). IsElaborated d (map (shown_driver c.args.columns.now.design) c.args.columns.now.drivers) c.args.columns.now.starts) (sym seen) c.judged.ensures.elaborated in
    ap length c.starts.ensures ∙ is.insts

pub mark_first-requires : goal.mark_first-requires
mark_first-requires c =
    let are = are_in c.survey-survey.result.now c.args.columns.now.design (c.survey-survey.ensures.same ∙ c.judged.ensures.same) c.args.columns.now.drivers c.args.columns.now.starts c.judged.ensures.elaborated c.args.graph.now.reads.now c.requires.reads c.starts.result.now c.starts.ensures c.in_ok-pearls.pearls c.in_ok-pearls.ensures in
    subst (λ (n : ℕ). c.count_cut.result ≤ n) (sym c.len.ensures) (subst (λ (n : ℕ). n ≤ length c.args.graph.now.reads.now) (sym c.count_cut.ensures) are.within)

pub find_past-requires-clause-fit : goal.find_past-requires-clause-fit
find_past-requires-clause-fit c =
    let are = are_in c.survey-survey.result.now c.args.columns.now.design (c.survey-survey.ensures.same ∙ c.judged.ensures.same) c.args.columns.now.drivers c.args.columns.now.starts c.judged.ensures.elaborated c.args.graph.now.reads.now c.requires.reads c.starts.result.now c.starts.ensures c.in_ok-pearls.pearls c.in_ok-pearls.ensures in
    subst (λ (ps : List Pearl). AllByRecursion (IsFittingPearl c.survey-survey.result.now (length c.args.graph.now.reads.now)) ps) (sym c.as_slice.ensures) are.fit

pub find_past-requires-clause-apart : goal.find_past-requires-clause-apart
find_past-requires-clause-apart c =
    let d = c.survey-survey.result.now in
    let g = c.args.graph.now.reads.now in
    let are = are_in c.survey-survey.result.now c.args.columns.now.design (c.survey-survey.ensures.same ∙ c.judged.ensures.same) c.args.columns.now.drivers c.args.columns.now.starts c.judged.ensures.elaborated c.args.graph.now.reads.now c.requires.reads c.starts.result.now c.starts.ensures c.in_ok-pearls.pearls c.in_ok-pearls.ensures in
    let cut_are = subst (λ (n : ℕ). (k : ℕ) → (flag c.in_ok-cut.cut k ≡ true) ↔ (k < n)) c.count_cut.ensures c.in_ok-cut.ensures.exact in
    let at_ps = subst (λ (ps : List Pearl). CutsOff d g c.in_ok-cut.cut ps) (sym c.as_slice.ensures) (are.apart c.in_ok-cut.cut cut_are) in
    subst (λ (x : List Bool). CutsOff d g x c.as_slice.result.now) (sym c.as_slice-2.ensures) at_ps

pub returns : goal.returns
returns c = subst (λ (d : Design). IfOk c.find_past.result (FindsDependence d)) (c.survey-survey.ensures.same ∙ c.judged.ensures.same) c.find_past.ensures
