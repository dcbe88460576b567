use Rattle.std.proofs.Common.{subst}
use Rattle.lid_base.specs.Outside.{OutputState, AppendedPrefix}
use Rattle.lid_base.proofs.Writes.{stopped_after}
use Rattle.lid_base.proofs.system.StdSinkSink.write.Goals as goal

pub returns-in-Ok-eq0-clause-err : goal.returns-in-Ok-eq0-clause-err
returns-in-Ok-eq0-clause-err g c =
    subst (λ (s : OutputState). AppendedPrefix s.written (g.W.Write.contents c.write.new.self) c.args.piece.now) c.self.view_is
    (stopped_after (g.W.Write.contents c.self.inside.writer) (g.W.Write.contents c.loop-rest.self-inside.writer) (g.W.Write.contents c.write.new.self)
    c.args.piece.now c.loop-rest.rest.now c.write.result c.loop-rest.invariant.so_far c.write.ensures.bytes)
