use Rattle.std.proofs.Common.{◌≡◌, ℕ, List, ◌++◌, subst}
use Rattle.lid_base.specs.Outside.{Appended, AppendedPrefix, Came, CamePrefix}
use Rattle.lid_base_io.specs.Calls.{full_pieces}
use Rattle.lid_base_io.specs.Transfer.{whole_pieces, after_pieces}
use Rattle.lid_top_clock.proofs.Pushes.{adds, breaks}
use Rattle.lid_top_clock.proofs.lines.Telling.push.Goals as goal

pub returns-in_default-clause-err : goal.returns-in_default-clause-err
returns-in_default-clause-err g c =
    breaks g.O.Sink.written g.O.Sink.pieces c.args.out.now c.push.new.out c.args.self.now.writer c.args.self.now.line.items
    (subst (λ (xs : List ℕ). AppendedPrefix (g.O.Sink.written c.args.out.now) (g.O.Sink.written c.push.new.out) (c.args.self.now.writer ++ xs)) c.as_slice.ensures.value c.in_default.ensures.err)
    (subst (λ (xs : List ℕ). CamePrefix (g.O.Sink.pieces c.args.out.now) (g.O.Sink.pieces c.push.new.out) (full_pieces (c.args.self.now.writer ++ xs))) c.as_slice.ensures.value c.in_default.ensures.begun)

pub returns-clause-ok : goal.returns-clause-ok
returns-clause-ok g c =
    adds g.O.Sink.written g.O.Sink.pieces c.args.out.now c.push.new.out c.args.self.now.writer c.args.self.now.line.items c.push.new.self
    (subst (λ (xs : List ℕ). Appended (g.O.Sink.written c.args.out.now) (g.O.Sink.written c.push.new.out) (whole_pieces (c.args.self.now.writer ++ xs))) c.as_slice.ensures.value c.in-Ok.ensures.ok)
    (subst (λ (xs : List ℕ). c.push.new.self ≡ after_pieces (c.args.self.now.writer ++ xs)) c.as_slice.ensures.value c.in-Ok.ensures.rest)
    (subst (λ (xs : List ℕ). Came (g.O.Sink.pieces c.args.out.now) (g.O.Sink.pieces c.push.new.out) (full_pieces (c.args.self.now.writer ++ xs))) c.as_slice.ensures.value c.in-Ok.ensures.pieces)
