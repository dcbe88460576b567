use Rattle.std.proofs.Common.{◌≡◌, false, ◌||◌, List, length, Option, Some, slice_get, get_or, refl, sym, ◌∙◌, ap}
use Rattle.std.specs.Option.{option_map_or}
use Rattle.std.specs.List.{list_any}
use Rattle.std.proofs.lemmas.Option.{slice_get_read}
use Rattle.lid_design.specs.declared.Design.{Design}
use Rattle.lid_design.specs.declared.Model.{Model}
use Rattle.lid_design.specs.Columns.{is_own_clock}
use Rattle.lid_check_names.specs.Names.{texts}
use Rattle.lid_check_hierarchy.specs.Clocks.{inst_binds, in_sets, is_clock_in, is_clock_by, GrowsBy}
use Rattle.lid_check_hierarchy.proofs.Growing.{grows_like, grows_twice}
use Rattle.lid_base.proofs.Results.{on_ok}
use Rattle.lid_check_hierarchy.proofs.clocks.add_clocks.Goals as goal

pub returns : goal.returns
returns c =
    let body = c.index-as_slice-model.result in
    let d = c.args.uses.now in
    let test = in_sets c.args.sets.now in
    let old = texts c.args.list.now.items in
    let mid = texts c.add_own.new.list.items in
    let new = texts c.add_all_bound.new.list.items in
    let here : slice_get d.models c.args.model ≡ Some body = slice_get_read d.models (length d.models) c.args.model body refl c.requires.exists (c.index-as_slice-model.is ∙ ap (λ (ms : List Model). get_or ms c.args.model body) (c.as_slice.ensures ∙ ap (λ (d : Design). d.models) c.design.ensures.same)) in
    on_ok {P = GrowsBy (λ net. list_any (inst_binds d test net) c.as_slice-2.result.now) mid new} {Q = GrowsBy (is_clock_by d test c.args.model) old new} c.add_all_bound.result
    (λ insts. grows_like (λ net. is_own_clock body net || list_any (inst_binds d test net) body.insts) (is_clock_by d test c.args.model) old new
    (λ net. sym (ap (λ (o : Option Model). option_map_or (is_clock_in d test net) o false) here))
    (grows_twice (is_own_clock body) (λ net. list_any (inst_binds d test net) body.insts) old mid new c.in_ok-add_own.ensures
    (grows_like (λ net. list_any (inst_binds d test net) c.as_slice-2.result.now) (λ net. list_any (inst_binds d test net) body.insts) mid new (λ net. ap (list_any (inst_binds d test net)) c.as_slice-2.ensures) insts)))
    c.add_all_bound.ensures
