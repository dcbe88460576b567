use Rattle.lid_strict_widths.proofs.Tables.{tables_next}
use Rattle.lid_strict_widths.proofs.building.tables_of.Goals as goal

pub loop-step-preserved : goal.loop-step-preserved
loop-step-preserved c =
    tables_next c.loop-step.words.items c.push_table.new.words.items c.args.cubes.now c.args.steps.now c.loop-step.tables.items c.push.new.self.items c.loop-step.step-index c.in_ok-table.table c.loop-step.invariant
    c.in_ok-table.ensures.kept c.in_ok-table.ensures.is c.in_ok-push.ensures.items
