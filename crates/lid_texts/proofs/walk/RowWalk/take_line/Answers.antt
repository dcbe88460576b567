use Rattle.std.proofs.Common.{◌∙◌, sym, refl}
use Rattle.lid_base.proofs.Results.{on_ok}
use Rattle.lid_texts.specs.Scans.{logical_of}
use Rattle.lid_texts.proofs.Walking.{sound_with, last_judged, last_rows, goes_on_walked, goes_on_rows, ends_walked, ends_rows}
use Rattle.lid_texts.proofs.walk.RowWalk.take_line.Goals as goal

pub returns-then-goes_on-clause-walked : goal.returns-then-goes_on-clause-walked
returns-then-goes_on-clause-walked c = λ lines few goes.
    goes_on_walked c.args.columns.now c.args.outs lines c.args.line.now c.args.self.now _ few (sym c.if-goes_on.ensures) goes c.in_ok-add.ensures c.saturating_add-self.ensures refl refl

pub returns-then-goes_on-clause-rows : goal.returns-then-goes_on-clause-rows
returns-then-goes_on-clause-rows c = λ lines few goes.
    goes_on_rows c.args.columns.now c.args.outs lines c.args.line.now c.args.into.now.items (sym c.if-goes_on.ensures)

pub returns-clause-walked : goal.returns-clause-walked
returns-clause-walked c = λ lines few goes.
    on_ok c.end_line.result
    (λ judged. ends_walked c.args.columns.now c.args.outs lines c.args.line.now c.args.self.now c.end_line.new.self few (sym c.if-goes_on.ensures) goes c.end_line.ensures.begun (c.end_line.ensures.number ∙ c.saturating_add-self.ensures)
    (last_judged c.args.columns.now c.args.outs lines c.args.line.now c.args.self.now c.end_line.new.self c.saturating_add-self.result c.add.new.self few goes c.saturating_add-self.ensures c.in_ok-add.ensures judged))
    (c.end_line.ensures.judged (logical_of lines) (sound_with c.args.columns.now c.args.outs lines c.args.line.now c.args.self.now _ goes refl refl))

pub returns-clause-rows : goal.returns-clause-rows
returns-clause-rows c = λ lines few goes.
    on_ok c.end_line.result
    (λ grow. ends_rows c.args.columns.now c.args.outs lines c.args.line.now c.args.into.now.items c.end_line.new.into.items (sym c.if-goes_on.ensures)
    (last_rows c.args.columns.now c.args.outs lines c.args.line.now c.args.self.now c.saturating_add-self.result c.add.new.self c.args.into.now.items c.end_line.new.into.items few goes c.saturating_add-self.ensures c.in_ok-add.ensures grow))
    (c.end_line.ensures.rows (logical_of lines) (sound_with c.args.columns.now c.args.outs lines c.args.line.now c.args.self.now _ goes refl refl))
