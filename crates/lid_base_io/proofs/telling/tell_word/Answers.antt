use Rattle.std.proofs.Common.{[], ◌∷◌}
use Rattle.lid_base_io.specs.Telling.{spelled}
use Rattle.lid_base.proofs.Results.{on_ok, on_err}
use Rattle.lid_base.proofs.Writes.{part_of_first, first_and_err}
use Rattle.lid_base_io.proofs.Joined.{both_joined, first_and_begun, first_begun}
use Rattle.lid_base_io.proofs.telling.tell_word.Goals as goal

pub returns-in_default-clause-err : goal.returns-in_default-clause-err
returns-in_default-clause-err g c =
    part_of_first (g.E.Sink.written c.args.err.now) (g.E.Sink.written c.tell_text.new.err) (32 ∷ []) (spelled c.args.word) c.in_default.ensures.err

pub returns-in_default-clause-begun : goal.returns-in_default-clause-begun
returns-in_default-clause-begun g c =
    first_begun (g.E.Sink.pieces c.args.err.now) (g.E.Sink.pieces c.tell_text.new.err) (32 ∷ []) (spelled c.args.word) c.in_default.ensures.begun

pub returns-clause-err : goal.returns-clause-err
returns-clause-err g c =
    first_and_err c.tell_spelled.result (g.E.Sink.written c.args.err.now) (g.E.Sink.written c.tell_text.new.err) (g.E.Sink.written c.tell_spelled.new.err)
    (32 ∷ []) (spelled c.args.word) c.in-Ok.ensures.ok c.tell_spelled.ensures.err

pub returns-clause-pieces : goal.returns-clause-pieces
returns-clause-pieces g c =
    on_ok c.tell_spelled.result
    (both_joined (g.E.Sink.pieces c.args.err.now) (g.E.Sink.pieces c.tell_text.new.err) (g.E.Sink.pieces c.tell_spelled.new.err) (32 ∷ []) (spelled c.args.word) c.in-Ok.ensures.pieces)
    c.tell_spelled.ensures.pieces

pub returns-clause-begun : goal.returns-clause-begun
returns-clause-begun g c =
    on_err c.tell_spelled.result
    (first_and_begun (g.E.Sink.pieces c.args.err.now) (g.E.Sink.pieces c.tell_text.new.err) (g.E.Sink.pieces c.tell_spelled.new.err) (32 ∷ []) (spelled c.args.word) c.in-Ok.ensures.pieces)
    c.tell_spelled.ensures.begun
