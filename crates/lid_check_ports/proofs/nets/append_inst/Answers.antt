use Rattle.std.proofs.Common.{List, map, length, sym, ◌∙◌, ap, subst}
use Rattle.lid_base.proofs.Results.{on_ok}
use Rattle.lid_design.specs.declared.Bind.{Bind}
use Rattle.lid_design.specs.Models.{actual_of}
use Rattle.lid_check_table.specs.Tables.{AreNumbersOf, Appends}
use Rattle.lid_check_table.proofs.Appending.{none_appended}
use Rattle.lid_check_ports.specs.Nets.{actuals_on}
use Rattle.lid_check_ports.proofs.Subs.{sub_reached, on_none, on_some}
use Rattle.lid_check_ports.proofs.nets.append_inst.Goals as goal

pub append_actuals-requires-clause-reached : goal.append_actuals-requires-clause-reached
append_actuals-requires-clause-reached c = sub_reached c.args.ports.now c.args.model c.args.i c.args.numbered.inst.now c.requires.inst c.in-Some.sub c.requires.reached (sym c.model_of.ensures ∙ c.in-Some.is)

pub append_actuals-requires-clause-whole : goal.append_actuals-requires-clause-whole
append_actuals-requires-clause-whole c = c.requires.whole ∙ sym (ap (λ (bs : List Bind). length bs) c.as_slice-binds.ensures)

pub returns-in-Some : goal.returns-in-Some
returns-in-Some c =
    let inst = c.args.numbered.inst.now in
    let numbers = c.args.numbered.actuals.now in
    let nets = on_some c.args.ports.now c.args.model c.args.i inst c.requires.inst c.args.side c.in-Some.sub (sym c.model_of.ensures ∙ c.in-Some.is) in
    let same = ap (actuals_on c.args.side c.args.ports.now c.in-Some.sub) c.as_slice-binds.ensures in
    on_ok c.append_actuals.result (λ appended names are.
    subst (Appends names c.args.list.now.items c.append_actuals.new.list.items) (same ∙ nets)
    (appended names (subst (λ (bs : List Bind). AreNumbersOf names (map actual_of bs) numbers) (sym c.as_slice-binds.ensures) are))) c.append_actuals.ensures

pub returns-in-None : goal.returns-in-None
returns-in-None c names are =
    let old = c.args.list.now.items in
    let none = on_none c.args.ports.now c.args.model c.args.i c.args.numbered.inst.now c.requires.inst c.args.side (sym c.model_of.ensures ∙ c.in-None.is) in
    subst (Appends names old old) (sym none) (none_appended names old)
