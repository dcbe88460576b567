use Rattle.std.proofs.Common.{List, slice_get, ◌∙◌, sym, ap, length}
use Rattle.lid_base.proofs.Places.{item_read}
use Rattle.lid_design.specs.declared.Design.{Design}
use Rattle.lid_design.specs.declared.Model.{Model}
use Rattle.lid_check_hierarchy.proofs.Surveying.{inside_of}
use Rattle.lid_check_hierarchy.proofs.survey.Survey.table_of.Goals as goal

pub bounds-as_slice-model : goal.bounds-as_slice-model
bounds-as_slice-model c = inside_of c.self.invariant.names c.self.view_is c.args.model c.requires (ap length c.self.invariant.names.each_table) c.as_slice.ensures

pub returns : goal.returns
returns c =
    let k = c.args.model in
    let inside = inside_of c.self.invariant.names c.self.view_is k c.requires (ap length c.self.invariant.names.each_table) c.as_slice.ensures in
    let same = c.as_slice.ensures ∙ c.self.invariant.names.each_table ∙ ap (λ (d : Design). d.models) c.self.view_is in
    ap (λ (ms : List Model). slice_get ms k) (sym same) ∙ item_read c.as_slice.result.now k _ inside c.index-as_slice-model.is
