use Rattle.std.proofs.Common.{◌≡◌, false, Option, filter, sym, subst, ◌∙◌, ap}
use Rattle.lid_check_names.specs.Names.{texts}
use Rattle.std.specs.Option.{option_map_or}
use Rattle.lid_base.proofs.Lists.{filter_same}
use Rattle.lid_design.specs.declared.Model.{Model}
use Rattle.lid_design.specs.Columns.{is_clock}
use Rattle.lid_design.specs.Models.{port_drivers, is_clock_of}
use Rattle.lid_check_table.specs.Tables.{names_in, AreNumbersOf}
use Rattle.lid_check_table.proofs.Appending.{begun_by}
use Rattle.lid_check_rules.specs.Conditions.{first_two}
use Rattle.lid_check_rules.proofs.root.find_two_clocks_in.Goals as goal

pub returns : goal.returns
returns c =
    let d = c.args.ports.now in
    let k = c.args.k in
    let m = c.args.table.now in
    let drivers = port_drivers m in
    let are : AreNumbersOf (names_in m) drivers c.as_slice.result.now =
    subst (AreNumbersOf (names_in m) drivers) (sym c.as_slice.ensures.value) (begun_by (names_in m) drivers c.new-numbers.result.items c.append_ports.new.list.items c.new-numbers.ensures.items c.in_ok-append_ports.ensures)
    in
    let same : filter (is_clock_of d k) drivers ≡ filter (is_clock d m) drivers = filter_same (is_clock_of d k) (is_clock d m) drivers (λ net. ap (λ (o : Option Model). option_map_or (λ m. is_clock d m net) o false) c.requires.model) in
    c.tell_two.ensures ∙ ap first_two (ap texts c.as_slice-2.ensures.value ∙ c.in_ok-clocks.ensures drivers are ∙ same)
