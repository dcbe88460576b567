use Rattle.std.proofs.Common.{◌≡◌, List, ℕ, ◌∙◌, subst}
use Rattle.lid_design.specs.Models.{data_inputs_of}
use Rattle.lid_check_loops.specs.Pearls.{AreUnmarked, IsFirstMarked}
use Rattle.lid_check_loops.proofs.Leads.{some_unmarked}
use Rattle.lid_check_loops.proofs.outputs.first_input.Goals as goal

pub unreachable-requires : goal.unreachable-requires
unreachable-requires c =
    let d = c.args.survey.now in
    let pearl = c.args.pearl in
    let inputs : c.as_slice.result.now ≡ data_inputs_of d pearl.model = c.as_slice.ensures ∙ c.in_ok-inputs.ensures in
    some_unmarked d pearl c.args.marks.now (data_inputs_of d pearl.model) (subst (λ (xs : List (List ℕ)). AreUnmarked d pearl c.args.marks.now xs) inputs c.in-None.ensures) c.requires.some

pub returns : goal.returns
returns c =
    let d = c.args.survey.now in
    let pearl = c.args.pearl in
    let inputs : c.as_slice.result.now ≡ data_inputs_of d pearl.model = c.as_slice.ensures ∙ c.in_ok-inputs.ensures in
    subst (λ (xs : List (List ℕ)). IsFirstMarked d pearl c.args.marks.now xs c.in-Some.i) inputs c.in-Some.ensures
