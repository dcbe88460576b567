use Rattle.std.proofs.Common.{◌≡◌, ◌≤◌, ℕ, List, OnOk, length, sym, ◌∙◌, ap, subst}
use Rattle.lid_design.specs.declared.Model.{Model}
use Rattle.lid_check_table.specs.Tables.{AreNumbersOf}
use Rattle.lid_check_drivers.specs.Locals.{inputs_from}
use Rattle.lid_check_elab.specs.Templates.{model_names}
use Rattle.lid_check_elab.specs.Parts.{Grows, data_of}
use Rattle.lid_check_elab.proofs.Naming.{numbers_here}
use Rattle.lid_check_elab.proofs.driven.push_inputs.Goals as goal

pub push_data-requires-clause-numbers : goal.push_data-requires-clause-numbers
push_data-requires-clause-numbers c =
    let d = c.args.judged.now in
    let m = c.args.table.now in
    let same : c.as_slice.result.now ≡ m.inputs = c.as_slice.ensures ∙ ap (λ (m : Model). m.inputs) c.model.ensures in
    subst (λ (ns : List (List ℕ)). AreNumbersOf (model_names d c.args.model) ns c.inputs.result.now) (sym same) (numbers_here d c.args.model m c.requires.model m.inputs c.inputs.result.now c.inputs.ensures)

pub push_data-requires-clause-few : goal.push_data-requires-clause-few
push_data-requires-clause-few c =
    let same : c.as_slice.result.now ≡ c.args.table.now.inputs = c.as_slice.ensures ∙ ap (λ (m : Model). m.inputs) c.model.ensures in
    subst (λ (ns : List (List ℕ)). length (data_of c.args.judged.now c.args.model ns) ≤ 1048576) (sym same) c.requires.few

pub returns : goal.returns
returns c =
    let d = c.args.judged.now in
    let k = c.args.model in
    let same : c.as_slice.result.now ≡ c.args.table.now.inputs = c.as_slice.ensures ∙ ap (λ (m : Model). m.inputs) c.model.ensures in
    subst (λ (ns : List (List ℕ)). OnOk c.push_data.result (Grows d k (inputs_from 0 (data_of d k ns)) c.args.into.now c.push_data.new.into)) same c.push_data.ensures
