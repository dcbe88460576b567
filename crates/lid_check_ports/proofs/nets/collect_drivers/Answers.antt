use Rattle.std.proofs.Common.{◌++◌, ◌∙◌, subst, sym}
use Rattle.lid_design.specs.Models.{port_drivers, inner_drivers, driver_names}
use Rattle.lid_check_table.specs.Tables.{names_in, AreNumbersOf}
use Rattle.lid_check_table.proofs.Appending.{begun_by, then_appended}
use Rattle.lid_check_table.proofs.Marking.{marks_swapped, again_swapped}
use Rattle.lid_check_ports.proofs.nets.collect_drivers.Goals as goal

pub returns-clause-inner : goal.returns-clause-inner
returns-clause-inner c =
    let m = c.args.table.now in
    let inner = inner_drivers c.args.ports.now m in
    c.in_ok-inner.ensures inner (subst (AreNumbersOf (names_in m) inner) (sym c.as_slice.ensures.value) (begun_by (names_in m) inner c.new-list.result.items c.append_inner.new.list.items c.new-list.ensures.items c.in_ok-append_inner.ensures))

pub returns-clause-all : goal.returns-clause-all
unfolding driver_names
returns-clause-all c =
    let m = c.args.table.now in
    let names = names_in m in
    let inner = inner_drivers c.args.ports.now m in
    let ports = port_drivers m in
    let both = then_appended names c.new-list.result.items c.append_inner.new.list.items c.append_ports.new.list.items inner ports c.in_ok-append_inner.ensures c.in_ok-append_ports.ensures in
    let are = subst (AreNumbersOf names (inner ++ ports)) (sym c.as_slice-2.ensures.value) (begun_by names (inner ++ ports) c.new-list.result.items c.append_ports.new.list.items c.new-list.ensures.items both) in
    c.in_ok-all.ensures.all (inner ++ ports) are ∙ marks_swapped names inner ports

pub returns-clause-twice : goal.returns-clause-twice
unfolding driver_names
returns-clause-twice c =
    let m = c.args.table.now in
    let names = names_in m in
    let inner = inner_drivers c.args.ports.now m in
    let ports = port_drivers m in
    let both = then_appended names c.new-list.result.items c.append_inner.new.list.items c.append_ports.new.list.items inner ports c.in_ok-append_inner.ensures c.in_ok-append_ports.ensures in
    let are = subst (AreNumbersOf names (inner ++ ports)) (sym c.as_slice-2.ensures.value) (begun_by names (inner ++ ports) c.new-list.result.items c.append_ports.new.list.items c.new-list.ensures.items both) in
    c.in_ok-all.ensures.twice (inner ++ ports) are ∙ again_swapped names inner ports
