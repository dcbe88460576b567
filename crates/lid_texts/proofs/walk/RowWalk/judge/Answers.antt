use Rattle.std.proofs.Common.{◌≡◌, None, sym, ◌∙◌}
use Rattle.lid_texts.proofs.Judging.{judged_faulty, grown_faulty, judged_fine, grown_fine}
use Rattle.lid_base.proofs.Options.{none_of}
use Rattle.lid_texts.proofs.walk.RowWalk.judge.Goals as goal

pub returns-then-is_some-clause-judged : goal.returns-then-is_some-clause-judged
returns-then-is_some-clause-judged c = λ lines sound.
    judged_faulty c.args.columns.now c.args.outs lines c.args.line.now c.args.self.now _ (sym c.has_words.ensures ∙ c.if-not-has_words.false) sound c.line_fault-self.ensures.kept (sym c.if-is_some.ensures)

pub returns-then-is_some-clause-rows : goal.returns-then-is_some-clause-rows
returns-then-is_some-clause-rows c = λ lines sound.
    grown_faulty c.args.columns.now c.args.outs lines c.args.line.now c.args.self.now c.line_fault-self.result c.args.into.now.items (sym c.has_words.ensures ∙ c.if-not-has_words.false) sound c.line_fault-self.ensures.kept (sym c.if-is_some.ensures)

pub returns-clause-judged : goal.returns-clause-judged
returns-clause-judged c = λ lines sound.
    let none : c.line_fault-self.result ≡ None = none_of c.line_fault-self.result (sym c.if-is_some.ensures) in
    judged_fine c.args.columns.now c.args.outs lines c.args.line.now c.args.self.now _ (sym c.has_words.ensures ∙ c.if-not-has_words.false) sound c.line_fault-self.ensures.kept (sym c.if-is_some.ensures)
    (c.line_fault-self.ensures.few none) c.saturating_add-self.ensures

pub returns-clause-rows : goal.returns-clause-rows
returns-clause-rows c = λ lines sound.
    grown_fine c.args.columns.now c.args.outs lines c.args.line.now c.args.self.now c.line_fault-self.result c.args.into.now.items c.push_row.new.into.items (sym c.has_words.ensures ∙ c.if-not-has_words.false) sound c.line_fault-self.ensures.kept (sym c.if-is_some.ensures)
    c.push_row.ensures.first (c.in_ok-push_row.ensures.row)
