use Rattle.std.proofs.Common.{refl, sym, ◌∙◌, subst}
use Rattle.lid_design.specs.declared.Design.{Design}
use Rattle.lid_design.specs.Columns.{IsStrictOutput}
use Rattle.lid_check.specs.Networks.{IsNetwork}
use Rattle.lid_strict.proofs.Outputs.{output_shape}
use Rattle.lid_strict.proofs.whole.strict.Goals as goal

pub run-requires-clause-network : goal.run-requires-clause-network
run-requires-clause-network c = subst (λ (d : Design). IsNetwork d c.network-network.result.now) (sym c.design.ensures.same) c.network-network.ensures

pub returns-clause-ok : goal.returns-clause-ok
returns-clause-ok c =
    let given = c.in_ok-run.ensures.rows in
    let rows = c.args.rows.now.bits in
    subst (λ (d : Design). IsStrictOutput d rows c.from_vec.result) c.design.ensures.same
    (subst (IsStrictOutput c.design.result.now rows) (sym (c.from_vec.ensures ∙ c.in_ok-bits.ensures ∙ given.2)) given.1)

pub returns-clause-height : goal.returns-clause-height
returns-clause-height c =
    let given = c.in_ok-run.ensures.rows in
    rw (c.from_vec.ensures ∙ c.in_ok-bits.ensures ∙ given.2) (output_shape _ _ _ _ _ c.design.ensures.same refl given.1).height

pub returns-clause-width : goal.returns-clause-width
returns-clause-width c =
    let given = c.in_ok-run.ensures.rows in
    rw (c.from_vec.ensures ∙ c.in_ok-bits.ensures ∙ given.2) (output_shape _ _ _ _ _ c.design.ensures.same refl given.1).width
