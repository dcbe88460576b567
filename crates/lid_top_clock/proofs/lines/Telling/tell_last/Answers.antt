use Rattle.std.proofs.Common.{OnErr, Bool, List, Option, Bor, sym, subst}
use Rattle.lid_clock.specs.Ran.{lent}
use Rattle.lid_top_clock.specs.Pushing.{Breaks, last_text}
use Rattle.lid_top_clock.proofs.lines.Telling.tell_last.Goals as goal

pub returns-in-Some-clause-err : goal.returns-in-Some-clause-err
returns-in-Some-clause-err g c =
    subst (λ (last : Option (Bor (List Bool))). OnErr c.tell_row.result (Breaks g.O.Sink.written g.O.Sink.pieces c.args.out.now c.tell_row.new.out c.args.self.now.writer (last_text c.args.columns.now (lent last))))
    (sym c.in-Some.is) c.tell_row.ensures.err
