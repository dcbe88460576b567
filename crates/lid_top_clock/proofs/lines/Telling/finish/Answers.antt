use Rattle.lid_top_clock.proofs.Pushes.{closes, breaks_last, breaks_late}
use Rattle.lid_top_clock.proofs.lines.Telling.finish.Goals as goal

pub returns-in-Err-clause-err : goal.returns-in-Err-clause-err
returns-in-Err-clause-err g c =
    breaks_last g.O.Sink.written g.O.Sink.pieces c.args.out.now c.push.new.out c.args.self.now.writer c.args.self.now.line.items c.in-Err.ensures.err

pub returns-in_default-finish-clause-err : goal.returns-in_default-finish-clause-err
returns-in_default-finish-clause-err g c =
    breaks_late g.O.Sink.written g.O.Sink.pieces c.args.out.now c.push.new.out c.finish.new.out c.args.self.now.writer c.push.new.self.writer c.args.self.now.line.items
    c.in_default.ensures.ok c.finish.ensures.pieces c.in_default-finish.ensures.err

pub returns-clause-ok : goal.returns-clause-ok
returns-clause-ok g c =
    closes g.O.Sink.written g.O.Sink.pieces c.args.out.now c.push.new.out c.finish.new.out c.args.self.now.writer c.push.new.self.writer c.args.self.now.line.items
    c.in_default.ensures.ok c.finish.ensures.pieces c.in-Ok.ensures.ok
