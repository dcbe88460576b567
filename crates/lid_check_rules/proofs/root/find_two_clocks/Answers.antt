use Rattle.std.proofs.Common.{◌≡◌, [], Some, filter, option_and_then, slice_get, sym, ◌∙◌, ap}
use Rattle.lid_design.specs.declared.Design.{Design}
use Rattle.lid_design.specs.Columns.{is_clock}
use Rattle.lid_design.specs.Models.{port_drivers, number_from}
use Rattle.lid_base.proofs.Results.{if_ok}
use Rattle.lid_check_rules.specs.Conditions.{first_two, two_clocks}
use Rattle.lid_check_rules.proofs.root.find_two_clocks.Goals as goal

pub table_of-requires : goal.table_of-requires
unfolding number_from
table_of-requires c = ([], sym (ap (λ (d : Design). Some d.root) c.design.ensures.same))

pub find_two_clocks_in-requires-clause-reached : goal.find_two_clocks_in-requires-clause-reached
unfolding number_from
find_two_clocks_in-requires-clause-reached c = ([], sym (ap (λ (d : Design). Some d.root) (c.design.ensures.same ∙ c.survey-survey.ensures)))

pub find_two_clocks_in-requires-clause-model : goal.find_two_clocks_in-requires-clause-model
find_two_clocks_in-requires-clause-model c = ap (λ (d : Design). slice_get d.models c.design.result.now.root) (sym c.survey-survey.ensures) ∙ c.table_of.ensures

pub returns : goal.returns
unfolding two_clocks
returns c =
    let d = c.args.ports.now in
    let here : slice_get d.models d.root ≡ Some c.table_of.result.now =
    sym (ap (λ (e : Design). slice_get d.models e.root) (c.design.ensures.same ∙ c.survey-survey.ensures))
    ∙ ap (λ (e : Design). slice_get e.models c.design.result.now.root) (sym c.survey-survey.ensures)
    ∙ c.table_of.ensures
    in
    if_ok c.find_two_clocks_in.result (λ told e. e ∙ sym (ap (option_and_then (λ m. first_two (filter (is_clock d m) (port_drivers m)))) here)) c.find_two_clocks_in.ensures
