use Rattle.lid_top_clock.proofs.Pushes.{breaks_off}
use Rattle.lid_top_clock.proofs.lines.Telling.tell_header.Goals as goal

pub returns-in_default-clause-err : goal.returns-in_default-clause-err
returns-in_default-clause-err g c = breaks_off g.O.Sink.written g.O.Sink.pieces _ _ _
