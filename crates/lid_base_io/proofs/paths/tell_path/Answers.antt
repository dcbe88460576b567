use Rattle.std.proofs.Common.{ℕ, List, subst, sym}
use Rattle.std.specs.Fmt.{decimal}
use Rattle.lid_base.specs.Outside.{AppendedPrefix}
use Rattle.lid_base_io.specs.Calls.{CameJoined, CameJoinedPrefix}
use Rattle.lid_base_io.specs.Telling.{steps_text, path_text}
use Rattle.lid_base.proofs.Results.{on_ok, on_err}
use Rattle.lid_base.proofs.Writes.{part_of_first, first_and_part}
use Rattle.lid_base_io.proofs.Joined.{both_joined, first_and_begun, first_begun}
use Rattle.lid_base_io.proofs.paths.tell_path.Goals as goal

pub returns-in_default-clause-err : goal.returns-in_default-clause-err
returns-in_default-clause-err g c =
    subst (λ (path : List ℕ). AppendedPrefix (g.E.Sink.written c.args.err.now) (g.E.Sink.written c.tell_number.new.err) (path_text path)) (sym c.in-Some.ensures.cases.0)
    (part_of_first (g.E.Sink.written c.args.err.now) (g.E.Sink.written c.tell_number.new.err) (decimal c.in-Some.first.now) (steps_text c.in-Some.steps.now) c.in_default.ensures.err)

pub returns-in-Ok-clause-err : goal.returns-in-Ok-clause-err
returns-in-Ok-clause-err g c =
    on_err c.tell_steps.result
    (λ a. subst (λ (path : List ℕ). AppendedPrefix (g.E.Sink.written c.args.err.now) (g.E.Sink.written c.tell_steps.new.err) (path_text path)) (sym c.in-Some.ensures.cases.0)
    (first_and_part (g.E.Sink.written c.args.err.now) (g.E.Sink.written c.tell_number.new.err) (g.E.Sink.written c.tell_steps.new.err) (decimal c.in-Some.first.now) (steps_text c.in-Some.steps.now) c.in-Ok.ensures.ok a))
    c.tell_steps.ensures.err

pub returns-in_default-clause-begun : goal.returns-in_default-clause-begun
returns-in_default-clause-begun g c =
    subst (λ (path : List ℕ). CameJoinedPrefix (g.E.Sink.pieces c.args.err.now) (g.E.Sink.pieces c.tell_number.new.err) (path_text path)) (sym c.in-Some.ensures.cases.0)
    (first_begun (g.E.Sink.pieces c.args.err.now) (g.E.Sink.pieces c.tell_number.new.err) (decimal c.in-Some.first.now) (steps_text c.in-Some.steps.now) c.in_default.ensures.begun)

pub returns-in-Ok-clause-pieces : goal.returns-in-Ok-clause-pieces
returns-in-Ok-clause-pieces g c =
    on_ok c.tell_steps.result
    (λ a. subst (λ (path : List ℕ). CameJoined (g.E.Sink.pieces c.args.err.now) (g.E.Sink.pieces c.tell_steps.new.err) (path_text path)) (sym c.in-Some.ensures.cases.0)
    (both_joined (g.E.Sink.pieces c.args.err.now) (g.E.Sink.pieces c.tell_number.new.err) (g.E.Sink.pieces c.tell_steps.new.err) (decimal c.in-Some.first.now) (steps_text c.in-Some.steps.now) c.in-Ok.ensures.pieces a))
    c.tell_steps.ensures.pieces

pub returns-in-Ok-clause-begun : goal.returns-in-Ok-clause-begun
returns-in-Ok-clause-begun g c =
    on_err c.tell_steps.result
    (λ a. subst (λ (path : List ℕ). CameJoinedPrefix (g.E.Sink.pieces c.args.err.now) (g.E.Sink.pieces c.tell_steps.new.err) (path_text path)) (sym c.in-Some.ensures.cases.0)
    (first_and_begun (g.E.Sink.pieces c.args.err.now) (g.E.Sink.pieces c.tell_number.new.err) (g.E.Sink.pieces c.tell_steps.new.err) (decimal c.in-Some.first.now) (steps_text c.in-Some.steps.now) c.in-Ok.ensures.pieces a))
    c.tell_steps.ensures.begun
