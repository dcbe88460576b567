use Rattle.lid_strict_widths.proofs.Tables.{HasTables}
use Rattle.lid_strict_widths.proofs.building.tables_of.Given as goal

abbrev pub invariant-loop-step : goal.invariant-loop-step
invariant-loop-step l = HasTables l.words.items l.cubes l.steps l.tables.items l.step-index
