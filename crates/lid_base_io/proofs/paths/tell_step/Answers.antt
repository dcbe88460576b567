use Rattle.std.proofs.Common.{[], ◌∷◌}
use Rattle.std.specs.Fmt.{decimal}
use Rattle.lid_base.proofs.Results.{on_ok, on_err}
use Rattle.lid_base.proofs.Writes.{part_of_first, first_and_err}
use Rattle.lid_base_io.proofs.Joined.{both_joined, first_and_begun, first_begun}
use Rattle.lid_base_io.proofs.paths.tell_step.Goals as goal

pub returns-in_default-clause-err : goal.returns-in_default-clause-err
returns-in_default-clause-err g c =
    part_of_first (g.E.Sink.written c.args.err.now) (g.E.Sink.written c.tell_text.new.err) (47 ∷ []) (decimal c.args.step) c.in_default.ensures.err

pub returns-in_default-clause-begun : goal.returns-in_default-clause-begun
returns-in_default-clause-begun g c =
    first_begun (g.E.Sink.pieces c.args.err.now) (g.E.Sink.pieces c.tell_text.new.err) (47 ∷ []) (decimal c.args.step) c.in_default.ensures.begun

pub returns-clause-err : goal.returns-clause-err
returns-clause-err g c =
    first_and_err c.tell_number.result (g.E.Sink.written c.args.err.now) (g.E.Sink.written c.tell_text.new.err) (g.E.Sink.written c.tell_number.new.err)
    (47 ∷ []) (decimal c.args.step) c.in-Ok.ensures.ok c.tell_number.ensures.err

pub returns-clause-pieces : goal.returns-clause-pieces
returns-clause-pieces g c =
    on_ok c.tell_number.result
    (both_joined (g.E.Sink.pieces c.args.err.now) (g.E.Sink.pieces c.tell_text.new.err) (g.E.Sink.pieces c.tell_number.new.err) (47 ∷ []) (decimal c.args.step) c.in-Ok.ensures.pieces)
    c.tell_number.ensures.pieces

pub returns-clause-begun : goal.returns-clause-begun
returns-clause-begun g c =
    on_err c.tell_number.result
    (first_and_begun (g.E.Sink.pieces c.args.err.now) (g.E.Sink.pieces c.tell_text.new.err) (g.E.Sink.pieces c.tell_number.new.err) (47 ∷ []) (decimal c.args.step) c.in-Ok.ensures.pieces)
    c.tell_number.ensures.begun
