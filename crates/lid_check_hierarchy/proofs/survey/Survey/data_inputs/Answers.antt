use Rattle.std.proofs.Common.{[], ◌∙◌}
use Rattle.lid_design.specs.Models.{data_inputs_of}
use Rattle.lid_check_hierarchy.proofs.Surveying.{inside_of, seen_of}
use Rattle.lid_check_hierarchy.proofs.survey.Survey.data_inputs.Goals as goal

pub bounds-as_slice-model : goal.bounds-as_slice-model
bounds-as_slice-model c = inside_of c.self.invariant.names c.self.view_is c.args.model c.requires c.self.invariant.names.each_inputs c.as_slice.ensures

pub returns : goal.returns
returns c = c.as_slice-2.ensures ∙ seen_of c.self.invariant.names c.self.view_is c.args.model c.requires c.self.invariant.names.each_inputs c.as_slice.ensures (λ xs. xs) (λ d. data_inputs_of d c.args.model) _ [] c.index-as_slice-model.is (c.self.invariant.names.given c.args.model)
