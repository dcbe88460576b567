use Rattle.std.proofs.Common.{◌≡◌, ℕ, List, [], Some, slice_get, sym, subst}
use Rattle.lid_design.specs.declared.Design.{Design}
use Rattle.lid_design.specs.declared.Model.{Model}
use Rattle.lid_design.specs.Elaboration.{model_nets}
use Rattle.lid_check_table.specs.Tables.{names_in, AreNumbersOf}
use Rattle.lid_check_hierarchy.proofs.Surveying.{inside_of, told_of}
use Rattle.lid_check_hierarchy.proofs.survey.Survey.nets_of.Goals as goal

pub bounds-as_slice-model : goal.bounds-as_slice-model
bounds-as_slice-model c = inside_of c.self.invariant.names c.self.view_is c.args.model c.requires c.self.invariant.names.each_numbers c.as_slice.ensures

pub returns : goal.returns
returns c m here =
    let k = c.args.model in
    let told = told_of c.self.invariant.names c.self.view_is k c.requires c.self.invariant.names.each_numbers c.as_slice.ensures (λ (d : Design) (row : List ℕ). (m : Model) → slice_get d.models k ≡ Some m → AreNumbersOf (names_in m) (model_nets d k) row) _ [] c.index-as_slice-model.is (λ reached m here. c.self.invariant.names.nets k m reached here) in
    subst (AreNumbersOf (names_in m) (model_nets c.args.self.now k)) (sym c.as_slice-2.ensures) (told m here)
