use Rattle.std.proofs.Common.{◌≡◌, ℕ, List, [], Some, Option, slice_get, ◌∙◌}
use Rattle.lid_design.specs.declared.Design.{Design}
use Rattle.lid_design.specs.declared.Model.{Model}
use Rattle.lid_design.specs.Elaboration.{model_nets}
use Rattle.lid_check_table.specs.Tables.{names_in}
use Rattle.lid_check_hierarchy.specs.Nets.{net_places}
use Rattle.lid_check_hierarchy.proofs.Surveying.{inside_of, told_of}
use Rattle.lid_check_hierarchy.proofs.survey.Survey.places_of.Goals as goal

pub bounds-as_slice-model : goal.bounds-as_slice-model
bounds-as_slice-model c = inside_of c.self.invariant.names c.self.view_is c.args.model c.requires c.self.invariant.names.each_places c.as_slice.ensures

pub returns : goal.returns
returns c m here =
    let k = c.args.model in
    let told = told_of c.self.invariant.names c.self.view_is k c.requires c.self.invariant.names.each_places c.as_slice.ensures (λ (d : Design) (row : List (Option ℕ)). (m : Model) → slice_get d.models k ≡ Some m → row ≡ net_places (model_nets d k) (names_in m)) _ [] c.index-as_slice-model.is (λ reached m here. c.self.invariant.names.placed k m reached here) in
    c.as_slice-2.ensures ∙ told m here
