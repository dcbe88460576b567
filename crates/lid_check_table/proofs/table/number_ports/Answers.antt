use Rattle.std.proofs.Common.{List, ℕ, ap, ◌∙◌, subst}
use Rattle.lid_check_table.specs.Tables.{AreNumbersOf, with_names}
use Rattle.lid_check_table.proofs.Growing.{lists_enter}
use Rattle.lid_check_table.proofs.table.number_ports.Goals as goal

pub returns-clause-names : goal.returns-clause-names
returns-clause-names c =
    let a = c.args.names.now in
    let b = c.number_names.new.names in
    let d = c.number_names-2.new.names in
    let e = c.number_names-3.new.names in
    (lists_enter c.args.model.now a b d e c.in_ok-inputs.inputs c.in_ok-outputs.outputs c.in_ok-clocks.clocks
    (c.in_ok-inputs.ensures.names ∙ ap (with_names a) c.as_slice.ensures)
    (c.in_ok-outputs.ensures.names ∙ ap (with_names b) c.as_slice-2.ensures)
    (c.in_ok-clocks.ensures.names ∙ ap (with_names d) c.as_slice-3.ensures)
    (subst (λ (ns : List (List ℕ)). AreNumbersOf b ns c.in_ok-inputs.inputs) c.as_slice.ensures c.in_ok-inputs.ensures.numbers)
    (subst (λ (ns : List (List ℕ)). AreNumbersOf d ns c.in_ok-outputs.outputs) c.as_slice-2.ensures c.in_ok-outputs.ensures.numbers)
    (subst (λ (ns : List (List ℕ)). AreNumbersOf e ns c.in_ok-clocks.clocks) c.as_slice-3.ensures c.in_ok-clocks.ensures.numbers)).0

pub returns-clause-numbers : goal.returns-clause-numbers
returns-clause-numbers c =
    let a = c.args.names.now in
    let b = c.number_names.new.names in
    let d = c.number_names-2.new.names in
    let e = c.number_names-3.new.names in
    (lists_enter c.args.model.now a b d e c.in_ok-inputs.inputs c.in_ok-outputs.outputs c.in_ok-clocks.clocks
    (c.in_ok-inputs.ensures.names ∙ ap (with_names a) c.as_slice.ensures)
    (c.in_ok-outputs.ensures.names ∙ ap (with_names b) c.as_slice-2.ensures)
    (c.in_ok-clocks.ensures.names ∙ ap (with_names d) c.as_slice-3.ensures)
    (subst (λ (ns : List (List ℕ)). AreNumbersOf b ns c.in_ok-inputs.inputs) c.as_slice.ensures c.in_ok-inputs.ensures.numbers)
    (subst (λ (ns : List (List ℕ)). AreNumbersOf d ns c.in_ok-outputs.outputs) c.as_slice-2.ensures c.in_ok-outputs.ensures.numbers)
    (subst (λ (ns : List (List ℕ)). AreNumbersOf e ns c.in_ok-clocks.clocks) c.as_slice-3.ensures c.in_ok-clocks.ensures.numbers)).1
