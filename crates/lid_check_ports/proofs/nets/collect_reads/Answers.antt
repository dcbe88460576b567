use Rattle.std.proofs.Common.{◌++◌, flat_map, sym, subst}
use Rattle.lid_base.proofs.Results.{if_ok}
use Rattle.lid_design.specs.Models.{cell_reads, read_by, read_names}
use Rattle.lid_check_table.specs.Tables.{names_in, AreNumbersOf}
use Rattle.lid_check_table.proofs.Appending.{begun_by, then_appended}
use Rattle.lid_check_ports.proofs.nets.collect_reads.Goals as goal

pub returns : goal.returns
unfolding read_names
returns c =
    let m = c.args.table.now in
    let names = names_in m in
    let cells = flat_map cell_reads m.cells in
    let insts = flat_map (read_by c.args.ports.now) m.insts in
    let none = c.new-list.result.items in
    let first = c.append_all.new.list.items in
    let second = c.append_nets.new.list.items in
    let last = c.append_all-2.new.list.items in
    let two = then_appended names none first second cells insts (c.in_ok-append_all.ensures names cells c.reads.ensures) c.in_ok-append_nets.ensures in
    let all = then_appended names none second last (cells ++ insts) m.outputs two (c.in_ok-append_all-2.ensures names m.outputs c.outputs.ensures) in
    let are = subst (AreNumbersOf names ((cells ++ insts) ++ m.outputs)) (sym c.as_slice.ensures.value) (begun_by names ((cells ++ insts) ++ m.outputs) none last c.new-list.ensures.items all) in
    if_ok c.mark_names.result (λ marks marked. marked ((cells ++ insts) ++ m.outputs) are) c.mark_names.ensures
