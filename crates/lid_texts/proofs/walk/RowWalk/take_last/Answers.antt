use Rattle.std.proofs.Common.{refl}
use Rattle.lid_base.proofs.Results.{on_ok}
use Rattle.lid_texts.specs.Scans.{logical_of}
use Rattle.lid_texts.proofs.Walking.{sound_with, last_judged, last_rows}
use Rattle.lid_texts.proofs.walk.RowWalk.take_last.Goals as goal

pub returns-clause-judged : goal.returns-clause-judged
returns-clause-judged c = λ lines few goes.
    on_ok c.end_line.result (last_judged c.args.columns.now c.args.outs lines c.args.line.now c.args.self.now c.end_line.new.self c.saturating_add-self.result c.add.new.self few goes c.saturating_add-self.ensures c.in_ok-add.ensures)
    (c.end_line.ensures.judged (logical_of lines) (sound_with c.args.columns.now c.args.outs lines c.args.line.now c.args.self.now _ goes refl refl))

pub returns-clause-rows : goal.returns-clause-rows
returns-clause-rows c = λ lines few goes.
    on_ok c.end_line.result (last_rows c.args.columns.now c.args.outs lines c.args.line.now c.args.self.now c.saturating_add-self.result c.add.new.self c.args.into.now.items c.end_line.new.into.items few goes c.saturating_add-self.ensures c.in_ok-add.ensures)
    (c.end_line.ensures.rows (logical_of lines) (sound_with c.args.columns.now c.args.outs lines c.args.line.now c.args.self.now _ goes refl refl))
