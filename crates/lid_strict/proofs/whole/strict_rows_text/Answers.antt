use Rattle.std.proofs.Common.{ℕ, List, sym, ◌∙◌, ap, subst}
use Rattle.lid_design.specs.declared.Design.{Design}
use Rattle.lid_design.specs.Columns.{IsStrictOutput}
use Rattle.lid_texts.specs.RowsText.{rows_text}
use Rattle.lid_check.specs.Networks.{IsNetwork}
use Rattle.lid_strict.proofs.whole.strict_rows_text.Goals as goal

pub run-requires-clause-network : goal.run-requires-clause-network
run-requires-clause-network c = subst (λ (d : Design). IsNetwork d c.network-network.result.now) (sym c.design.ensures.same) c.network-network.ensures

pub returns : goal.returns
returns c =
    let given = c.in_ok-run.ensures.rows in
    let columns = ap (λ (f : List (List ℕ) × ℕ). f.0) c.in_ok-run.ensures.form ∙ c.in_ok-printer.ensures.columns ∙ c.outputs.ensures.names in (
      given.0,
      subst (λ (d : Design). IsStrictOutput d c.args.rows.now.rows given.0) c.design.ensures.same given.1,
      c.into_text.ensures ∙ given.2 ∙ ap (λ (names : List (List ℕ)). rows_text names given.0) columns,
    )
