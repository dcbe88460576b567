use Rattle.std.proofs.Common.{◌*◌}
use Rattle.lid_top_script.proofs.Traces.{cells_good, cells_declined}
use Rattle.lid_top_script.proofs.tracing.judge_cells.Goals as goal

pub returns-in-Ok-clause-ok : goal.returns-in-Ok-clause-ok
returns-in-Ok-clause-ok c = cells_good (c.args.stations * c.args.cycles) c.in-Ok.ensures.ok

pub returns-in-Err-clause-err : goal.returns-in-Err-clause-err
returns-in-Err-clause-err c = cells_declined (c.args.stations * c.args.cycles) c.in-Err.fault c.in-Err.ensures.over c.in-Err.ensures.err
