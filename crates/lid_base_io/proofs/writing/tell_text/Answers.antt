use Rattle.lid_base.proofs.Results.{on_ok, on_err}
use Rattle.lid_base_io.proofs.Joined.{text_joined, text_begun}
use Rattle.lid_base_io.proofs.writing.tell_text.Goals as goal

pub returns-clause-pieces : goal.returns-clause-pieces
returns-clause-pieces g c =
    on_ok c.write_all.result (text_joined (g.E.Sink.pieces c.args.err.now) (g.E.Sink.pieces c.write_all.new.out) c.args.text.now) c.write_all.ensures.pieces

pub returns-clause-begun : goal.returns-clause-begun
returns-clause-begun g c =
    on_err c.write_all.result (text_begun (g.E.Sink.pieces c.args.err.now) (g.E.Sink.pieces c.write_all.new.out) c.args.text.now) c.write_all.ensures.begun
