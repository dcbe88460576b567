use Rattle.std.proofs.Common.{◌≡◌, ℕ, subst, arith}
use Rattle.lid_strict_engine.specs.Truth.{HasValues}
use Rattle.lid_strict_engine.proofs.Tabling.{values_again, values_below, values_all}
use Rattle.lid_strict_engine.proofs.truth.spread.Goals as goal

pub again-table-requires-clause-small : goal.again-table-requires-clause-small
again-table-requires-clause-small c = values_below c.args.cover.now c.loop-e.e c.loop-e.table c.loop-e.invariant

pub loop-e-preserved : goal.loop-e-preserved
loop-e-preserved c = values_again c.args.cover.now c.loop-e.e c.loop-e.table c.again-table.result (omega arith) c.loop-e.invariant c.again-table.ensures

pub returns : goal.returns
returns c =
    let end : c.loop-e.e ≡ 6 = omega arith in
    values_all c.args.cover.now c.loop-e.table (subst (λ (e : ℕ). HasValues c.args.cover.now e c.loop-e.table) end c.loop-e.invariant)
