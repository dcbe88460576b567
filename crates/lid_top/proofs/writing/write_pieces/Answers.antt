use Rattle.lid_base.proofs.Results.{on_ok, on_err}
use Rattle.lid_top.proofs.Pieces.{passed_whole, passed_in_part, begun_in_pieces, whole_in_pieces, all_begun}
use Rattle.lid_top.proofs.writing.write_pieces.Goals as goal

pub returns-clause-ok : goal.returns-clause-ok
returns-clause-ok g c =
    passed_whole c.finish.result (g.O.Sink.written c.args.out.now) (g.O.Sink.written c.push.new.out) (g.O.Sink.written c.finish.new.out) c.args.writer.now c.args.text.now c.push.new.self
    c.requires c.in-Ok.ensures.ok c.in-Ok.ensures.rest c.finish.ensures.ok

pub returns-clause-err : goal.returns-clause-err
returns-clause-err g c =
    passed_in_part c.finish.result (g.O.Sink.written c.args.out.now) (g.O.Sink.written c.push.new.out) (g.O.Sink.written c.finish.new.out) c.args.writer.now c.args.text.now c.push.new.self
    c.requires c.in-Ok.ensures.ok c.in-Ok.ensures.rest c.finish.ensures.err

pub returns-in_default-clause-begun : goal.returns-in_default-clause-begun
returns-in_default-clause-begun g c =
    begun_in_pieces (g.O.Sink.pieces c.args.out.now) (g.O.Sink.pieces c.push.new.out) c.args.writer.now c.args.text.now c.requires c.in_default.ensures.begun

pub returns-clause-pieces : goal.returns-clause-pieces
returns-clause-pieces g c =
    on_ok c.finish.result
    (λ _. whole_in_pieces (g.O.Sink.pieces c.args.out.now) (g.O.Sink.pieces c.push.new.out) c.args.writer.now c.args.text.now c.requires (g.O.Sink.pieces c.finish.new.out) c.push.new.self
    c.in-Ok.ensures.rest c.in-Ok.ensures.pieces c.finish.ensures.pieces)
    c.finish.ensures.ok

pub returns-clause-begun : goal.returns-clause-begun
returns-clause-begun g c =
    on_err c.finish.result
    (λ _. all_begun (g.O.Sink.pieces c.args.out.now) (g.O.Sink.pieces c.push.new.out) c.args.writer.now c.args.text.now c.requires (g.O.Sink.pieces c.finish.new.out) c.push.new.self
    c.in-Ok.ensures.rest c.in-Ok.ensures.pieces c.finish.ensures.pieces)
    c.finish.ensures.err
