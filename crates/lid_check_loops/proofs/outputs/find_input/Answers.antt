use Rattle.std.proofs.Common.{◌≡◌, Bool, List, true, sym, subst}
use Rattle.std.proofs.lemmas.Result.{IfOk-weaker}
use Rattle.lid_design.specs.Models.{data_inputs_of}
use Rattle.lid_check_loops.specs.Pearls.{is_marked, IsFirstMarked, IsFirstInput}
use Rattle.lid_check_loops.proofs.Leads.{some_marked, first_leads}
use Rattle.lid_check_loops.proofs.outputs.find_input.Goals as goal

pub first_input-requires-clause-some : goal.first_input-requires-clause-some
first_input-requires-clause-some c =
    let d = c.args.survey.now in
    let pearl = c.args.pearl in
    let found = some_marked d c.args.graph.now.reads.now c.args.cut.now pearl c.args.output.now c.in-Some.end (sym c.in-Some.ensures) c.in_ok-reaching.reaching c.in_ok-reaching.ensures.exact c.requires.some in
    (found.0, found.1, subst (λ (marks : List Bool). is_marked d pearl marks found.0 ≡ true) (sym c.as_slice.ensures) found.2)

pub returns : goal.returns
returns c =
    let d = c.args.survey.now in
    let pearl = c.args.pearl in
    IfOk-weaker c.first_input.result
    (IsFirstMarked d pearl c.as_slice.result.now (data_inputs_of d pearl.model))
    (IsFirstInput d c.args.graph.now.reads.now c.args.cut.now pearl c.args.output.now)
    (λ i first. first_leads d c.args.graph.now.reads.now c.args.cut.now pearl c.args.output.now c.in-Some.end (sym c.in-Some.ensures) c.in_ok-reaching.reaching c.in_ok-reaching.ensures.exact i (subst (λ (marks : List Bool). IsFirstMarked d pearl marks (data_inputs_of d pearl.model) i) c.as_slice.ensures first))
    c.first_input.ensures
