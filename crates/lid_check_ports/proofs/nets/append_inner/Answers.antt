use Rattle.std.proofs.Common.{map, flat_map}
use Rattle.lid_base.proofs.Results.{on_ok}
use Rattle.lid_design.specs.Models.{cell_out, driven_by}
use Rattle.lid_check_table.specs.Tables.{names_in}
use Rattle.lid_check_table.proofs.Appending.{then_appended}
use Rattle.lid_check_ports.proofs.nets.append_inner.Goals as goal

pub returns : goal.returns
returns c =
    let m = c.args.table.now in
    let names = names_in m in
    let outs = map cell_out m.cells in
    on_ok c.append_nets.result
    (then_appended names c.args.list.now.items c.append_all.new.list.items c.append_nets.new.list.items outs (flat_map (driven_by c.args.ports.now) m.insts) (c.in_ok-append_all.ensures names outs c.outs.ensures))
    c.append_nets.ensures
