use Rattle.std.proofs.Common.{arith}
use Rattle.lid_emit.proofs.Pearled.{pearls_parts}
use Rattle.lid_emit.proofs.pearls.cells_of_pearls.Goals as goal

pub returns : goal.returns
returns c =
    let parts = pearls_parts c.counts_are_sums.ensures c.args.survey.now in
    let latches = c.in_ok-latches.ensures in
    let covers = c.in_ok-covers.ensures in
    let inputs = c.in_ok-inputs.ensures in
    let rows = c.in_ok-rows.ensures in
    let first = c.saturating_add.ensures in
    let second = c.saturating_add-2.ensures in
    let third = c.saturating_add-3.ensures in
    omega arith
