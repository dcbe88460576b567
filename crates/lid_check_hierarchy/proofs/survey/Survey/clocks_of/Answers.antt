use Rattle.std.proofs.Common.{[]}
use Rattle.lid_design.specs.Columns.{is_among}
use Rattle.lid_design.specs.Models.{is_clock_of}
use Rattle.lid_check_hierarchy.proofs.Surveying.{inside_of, seen_of}
use Rattle.lid_check_hierarchy.proofs.survey.Survey.clocks_of.Goals as goal

pub bounds-as_slice-model : goal.bounds-as_slice-model
bounds-as_slice-model c = inside_of c.self.invariant.names c.self.view_is c.args.model c.requires c.self.invariant.names.each_clock c.as_slice.ensures

pub returns : goal.returns
returns c name = seen_of c.self.invariant.names c.self.view_is c.args.model c.requires c.self.invariant.names.each_clock c.as_slice.ensures (is_among name) (λ d. is_clock_of d c.args.model name) _ [] c.index-as_slice-model.is (c.self.invariant.names.clock c.args.model name)
