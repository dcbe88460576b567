use Rattle.std.proofs.Common.{List, ℕ, not, filter, ◌∙◌, sym, ap, subst}
use Rattle.lid_base.proofs.Results.{on_ok}
use Rattle.lid_design.specs.Columns.{is_among}
use Rattle.lid_design.specs.declared.Model.{Model}
use Rattle.lid_check_table.specs.Tables.{names_in, AreNumbersOf, Appends}
use Rattle.lid_check_table.proofs.Appending.{then_appended, as_many}
use Rattle.lid_check_ports.specs.declared.ports.Port.TheVariants.{Input}
use Rattle.lid_check_ports.specs.Ports.{is_in}
use Rattle.lid_check_ports.proofs.Sets.{in_here}
use Rattle.lid_check_ports.proofs.nets.append_ports.Goals as goal

pub append_others-requires : goal.append_others-requires
append_others-requires c =
    let m = c.args.table.now in
    let same = c.as_slice.ensures ∙ ap (λ (m : Model). m.clocks) c.model.ensures in
    as_many (names_in m) c.as_slice.result.now c.clocks.result.now (subst (λ (ns : List (List ℕ)). AreNumbersOf (names_in m) ns c.clocks.result.now) (sym same) c.clocks.ensures)

pub returns : goal.returns
returns c =
    let m = c.args.table.now in
    let names = names_in m in
    let d = c.args.ports.now in
    let k = c.args.k in
    let same = c.as_slice.ensures ∙ ap (λ (m : Model). m.clocks) c.model.ensures in
    let are = subst (λ (ns : List (List ℕ)). AreNumbersOf names ns c.clocks.result.now) (sym same) c.clocks.ensures in
    on_ok c.append_others.result (λ others.
    then_appended names c.args.list.now.items c.append_all.new.list.items c.append_others.new.list.items m.inputs (filter (λ net. not (is_among net m.inputs)) m.clocks)
    (c.in_ok-append_all.ensures names m.inputs c.inputs.ensures)
    (subst (Appends names c.append_all.new.list.items c.append_others.new.list.items)
    (ap (filter (λ net. not (is_in d Input k net))) same ∙ in_here d k m c.requires m.clocks)
    (others names are))) c.append_others.ensures
