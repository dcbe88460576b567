use Rattle.std.proofs.Common.{◌≡◌, ◌⊎◌, ◌+◌, ℕ, length, Err, inr, refl, sym, ◌∙◌, ap, subst, arith, IfOk, IfErr, OnErr}
use Rattle.lid_base.specs.declared.which.Which.TheVariants.{FileBytes}
use Rattle.lid_base.proofs.Results.{on_err}
use Rattle.lid_texts.specs.declared.rows.VecFault.TheVariants.{Limit, Memory}
use Rattle.lid_texts.specs.Rows.{rows_reading}
use Rattle.lid_texts.specs.RowsWalk.{with_last, RowsGrow, AreJudged, judged_count}
use Rattle.lid_texts.specs.Scans.{ended_lines, logical_of}
use Rattle.lid_texts.specs.Scanned.{FinishesScan}
use Rattle.lid_texts.proofs.Finishing.{at_end, at_last, too_long, refused_before, finished, refused_now, not_counted}
use Rattle.lid_texts.proofs.scan.RowScan.finish.Goals as goal

pub returns-then-self-gt-MOST_BYTES-clause-err : goal.returns-then-self-gt-MOST_BYTES-clause-err
returns-then-self-gt-MOST_BYTES-clause-err c = λ bytes read.
    let total = read.total in
    let more = c.if-self-gt-MOST_BYTES.true in
    inr (too_long c.args.self.now.columns c.args.self.now.outs bytes (omega arith) ∙ ap (λ (n : ℕ). Err (Limit FileBytes n)) (sym total))

pub returns-in-Some-clause-err : goal.returns-in-Some-clause-err
returns-in-Some-clause-err c = λ bytes read.
    let total = read.total in
    let few = c.if-self-gt-MOST_BYTES.false in
    inr (refused_before c.args.self.now.columns c.args.self.now.outs bytes c.args.self.now.walk.fault c.in-Some.fault (omega arith) c.in-Some.is c.args.self.now.walk refl read.walked)

pub returns-clause-ok : goal.returns-clause-ok
returns-clause-ok c = λ bytes read.
    let s = c.args.self.now in
    let end = at_end s bytes read c.if-self-gt-MOST_BYTES.false c.in_default.is in
    let judged = at_last (λ ns l lines. AreJudged ns s.outs (length lines + 1) (with_last lines l) c.take_last.new.self) s bytes _ _ end c.as_slice-columns.ensures c.as_slice-last.ensures.value c.in-Ok.ensures.judged in
    let rows = at_last (λ ns l lines. RowsGrow ns s.outs (logical_of lines) (with_last lines l) c.args.into.now.items c.take_last.new.into.items) s bytes _ _ end c.as_slice-columns.ensures c.as_slice-last.ensures.value c.in-Ok.ensures.rows in
    subst (λ r. IfOk r (FinishesScan s.columns s.outs bytes c.args.into.now.items c.take_last.new.into.items)) (sym c.count.ensures)
    (finished s.columns s.outs bytes (ended_lines bytes) s.partial.items end.short end.split c.take_last.new.self c.args.into.now.items c.take_last.new.into.items judged rows)

pub returns-clause-err : goal.returns-clause-err
returns-clause-err c = λ bytes read.
    let s = c.args.self.now in
    let end = at_end s bytes read c.if-self-gt-MOST_BYTES.false c.in_default.is in
    let judged = at_last (λ ns l lines. AreJudged ns s.outs (length lines + 1) (with_last lines l) c.take_last.new.self) s bytes _ _ end c.as_slice-columns.ensures c.as_slice-last.ensures.value c.in-Ok.ensures.judged in
    subst (λ r. IfErr r (λ e. (e ≡ Memory) ⊎ (rows_reading s.columns s.outs bytes ≡ Err e))) (sym c.count.ensures)
    (refused_now s.columns s.outs bytes (ended_lines bytes) s.partial.items end.short end.split c.take_last.new.self c.args.into.now.items c.take_last.new.into.items end.small judged)

pub returns-clause-kept : goal.returns-clause-kept
returns-clause-kept c =
    subst (λ r. OnErr r (c.take_last.new.into.items ≡ c.args.into.now.items)) (sym c.count.ensures)
    (on_err (judged_count c.take_last.new.self.fault c.take_last.new.self.judged) c.in-Ok.ensures.refused (not_counted c.take_last.new.self.fault c.take_last.new.self.judged))
