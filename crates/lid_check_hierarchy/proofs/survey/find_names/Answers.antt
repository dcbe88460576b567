use Rattle.std.proofs.Common.{◌≡◌, List, length, map, sym, ◌∙◌, ap}
use Rattle.lid_design.specs.declared.Design.{Design}
use Rattle.lid_design.specs.declared.Model.{Model}
use Rattle.lid_check_hierarchy.specs.Nets.{inputs_of_all, clock_marks, clock_marks_of_all, places_of_false, counts_of_false}
use Rattle.lid_check_hierarchy.proofs.Surveying.{named_of, made_long, AreMade}
use Rattle.lid_check_hierarchy.proofs.survey.find_names.Goals as goal

pub find_inputs-requires : goal.find_inputs-requires
find_inputs-requires c =
    let ms = c.as_slice.result.now in
    let sets = c.as_slice-2.result.now in
    let d = c.args.uses.now in
    let models : c.as_slice-models.result.now ≡ d.models = c.as_slice-models.ensures ∙ ap (λ (d : Design). d.models) c.design.ensures.same in
    let each : length sets ≡ length ms = ap length c.as_slice-2.ensures ∙ c.in_ok-clocks.ensures.size ∙ sym (ap length (c.as_slice.ensures ∙ c.in_ok-tables.ensures ∙ models)) in
    ap length (c.as_slice-5.ensures ∙ c.in_ok-marks.ensures) ∙ made_long clock_marks ms sets each ∙ ap length (c.as_slice.ensures ∙ sym c.as_slice-4.ensures)

pub returns : goal.returns
returns c =
    let d = c.args.uses.now in
    let models : c.as_slice-models.result.now ≡ d.models = c.as_slice-models.ensures ∙ ap (λ (d : Design). d.models) c.design.ensures.same in
    let tables = c.in_ok-tables.ensures ∙ models in
    let marks = c.in_ok-marks.ensures ∙ ap (λ (ms : List Model). clock_marks_of_all ms c.as_slice-2.result.now) (c.as_slice.ensures ∙ tables) ∙ ap (clock_marks_of_all d.models) c.as_slice-2.ensures in
    let clocks = c.in_ok-clocks.clocks in
    let own = c.as_slice-4.ensures ∙ tables in
    let given =
    c.in_ok-inputs.ensures clocks (c.in_ok-clocks.ensures.size ∙ sym (ap length own)) (c.as_slice-5.ensures ∙ marks ∙ sym (ap (λ (ms : List Model). clock_marks_of_all ms clocks) own))
    ∙ ap (λ (ms : List Model). inputs_of_all ms clocks) own
    in
    let made : AreMade d.models c.in_ok-clocks.clocks c.in_ok-tables.tables c.in_ok-nets.nets.numbers c.in_ok-nets.nets.places c.in_ok-inputs.inputs = record {
      tabled = tables;
      numbered = c.in_ok-nets.ensures.numbers ∙ ap (map (places_of_false 0)) (c.as_slice-3.ensures ∙ marks);
      placed = c.in_ok-nets.ensures.places ∙ ap (map (counts_of_false 0)) (c.as_slice-3.ensures ∙ marks);
      given = given;
    } in
    named_of d c.design.ensures.formed c.args.order.now c.requires c.in_ok-clocks.clocks c.in_ok-tables.tables c.in_ok-nets.nets.numbers c.in_ok-nets.nets.places c.in_ok-inputs.inputs c.in_ok-clocks.ensures made
