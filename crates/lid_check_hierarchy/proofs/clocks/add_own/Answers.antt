use Rattle.std.proofs.Common.{ap}
use Rattle.std.specs.List.{list_any}
use Rattle.lid_design.specs.Columns.{is_among, is_clocked_by, is_own_clock}
use Rattle.lid_check_names.specs.Names.{texts}
use Rattle.lid_check_hierarchy.specs.Clocks.{GrowsBy}
use Rattle.lid_check_hierarchy.proofs.Growing.{grows_like, grows_twice}
use Rattle.lid_base.proofs.Results.{on_ok}
use Rattle.lid_check_hierarchy.proofs.clocks.add_own.Goals as goal

pub returns : goal.returns
returns c =
    let m = c.args.model.now in
    let old = texts c.args.list.now.items in
    let mid = texts c.add_names.new.list.items in
    let new = texts c.add_controls.new.list.items in
    let names = grows_like (λ net. is_among net c.as_slice.result.now) (λ net. is_among net m.clocks) old mid (λ net. ap (is_among net) c.as_slice.ensures) c.in_ok-add_names.ensures in
    on_ok {P = GrowsBy (λ net. list_any (is_clocked_by net) c.as_slice-2.result.now) mid new} {Q = GrowsBy (is_own_clock m) old new} c.add_controls.result
    (λ controls. grows_twice (λ net. is_among net m.clocks) (λ net. list_any (is_clocked_by net) m.cells) old mid new names (grows_like (λ net. list_any (is_clocked_by net) c.as_slice-2.result.now) (λ net. list_any (is_clocked_by net) m.cells) mid new (λ net. ap (list_any (is_clocked_by net)) c.as_slice-2.ensures) controls))
    c.add_controls.ensures
