use Rattle.std.proofs.Common.{◌∷◌, [], codes, map, ◌∙◌, subst, arith}
use Rattle.lid_base_io.specs.Telling.{fault_line, spelled}
use Rattle.lid_base_io.proofs.FaultLines.{line_from, line_from_end, word_begun, word_written, word_joined, word_part}
use Rattle.lid_base_io.proofs.Joined.{JoinedSoFar, none_joined, more_joined, part_joined, all_joined, first_begun}
use Rattle.lid_base.proofs.Results.{on_ok, on_err}
use Rattle.lid_base.proofs.Writes.{SoFar, nothing_yet, one_more, all_written, part_written, part_of_first}
use Rattle.lid_base_io.proofs.telling.tell.Goals as goal

pub returns-in_default-clause-err : goal.returns-in_default-clause-err
unfolding fault_line line_from
returns-in_default-clause-err g c =
    part_of_first (g.E.Sink.written c.args.err.now) (g.E.Sink.written c.tell_text.new.err) (codes "lid:") (line_from c.args.words.now 0)
    c.in_default.ensures.err

pub loop-word-init : goal.loop-word-init
unfolding fault_line line_from
loop-word-init g c = record {
  so_far =
      let before = g.E.Sink.written c.args.err.now in
      let text = fault_line (map spelled c.args.words.now) in
      one_more before before (g.E.Sink.written c.tell_text.new.err) text (codes "lid:") (line_from c.args.words.now 0)
      (nothing_yet before text) c.in-Ok.ensures.ok;
  pieces =
      let before = g.E.Sink.pieces c.args.err.now in
      let text = fault_line (map spelled c.args.words.now) in
      more_joined before before (g.E.Sink.pieces c.tell_text.new.err) text (codes "lid:") (line_from c.args.words.now 0)
      (none_joined before text) c.in-Ok.ensures.pieces;
  still = c.in-Ok.ensures.still;
  grows = c.in-Ok.ensures.grows;
}

pub returns-in_default-tell_word-clause-err : goal.returns-in_default-tell_word-clause-err
returns-in_default-tell_word-clause-err g c =
    word_begun (g.E.Sink.written c.args.err.now) (g.E.Sink.written c.loop-word.err) (g.E.Sink.written c.tell_word.new.err)
    (fault_line (map spelled c.args.words.now)) c.args.words.now c.loop-word.word-index _ c.loop-word-test.true
    c.loop-word.invariant.so_far c.in_default-tell_word.ensures.err

pub loop-word-preserved : goal.loop-word-preserved
loop-word-preserved g c = record {
  so_far =
      word_written (g.E.Sink.written c.args.err.now) (g.E.Sink.written c.loop-word.err) (g.E.Sink.written c.tell_word.new.err)
      (fault_line (map spelled c.args.words.now)) c.args.words.now c.loop-word.word-index _ c.loop-word-test.true
      c.loop-word.invariant.so_far c.in-Ok-tell_word.ensures.ok;
  pieces =
      word_joined (g.E.Sink.pieces c.args.err.now) (g.E.Sink.pieces c.loop-word.err) (g.E.Sink.pieces c.tell_word.new.err)
      (fault_line (map spelled c.args.words.now)) c.args.words.now c.loop-word.word-index _ c.loop-word-test.true
      c.loop-word.invariant.pieces c.in-Ok-tell_word.ensures.pieces;
  still = c.in-Ok-tell_word.ensures.still ∙ c.loop-word.invariant.still;
  grows = let after = c.in-Ok-tell_word.ensures.grows in omega arith;
}

pub returns-clause-ok : goal.returns-clause-ok
returns-clause-ok g c =
    let so = subst (λ l. SoFar (g.E.Sink.written c.args.err.now) (g.E.Sink.written c.loop-word.err) (fault_line (map spelled c.args.words.now)) l)
    (line_from_end c.args.words.now c.loop-word.word-index c.loop-word-test.false) c.loop-word.invariant.so_far in
    on_ok c.tell_text-2.result
    (λ a. all_written (g.E.Sink.written c.args.err.now) (g.E.Sink.written c.tell_text-2.new.err) (fault_line (map spelled c.args.words.now))
    (one_more (g.E.Sink.written c.args.err.now) (g.E.Sink.written c.loop-word.err) (g.E.Sink.written c.tell_text-2.new.err) (fault_line (map spelled c.args.words.now)) (10 ∷ []) [] so a))
    c.tell_text-2.ensures.ok

pub returns-clause-err : goal.returns-clause-err
returns-clause-err g c =
    let so = subst (λ l. SoFar (g.E.Sink.written c.args.err.now) (g.E.Sink.written c.loop-word.err) (fault_line (map spelled c.args.words.now)) l)
    (line_from_end c.args.words.now c.loop-word.word-index c.loop-word-test.false) c.loop-word.invariant.so_far in
    on_err c.tell_text-2.result
    (λ a. part_written (g.E.Sink.written c.args.err.now) (g.E.Sink.written c.loop-word.err) (g.E.Sink.written c.tell_text-2.new.err) (fault_line (map spelled c.args.words.now)) (10 ∷ []) [] so a)
    c.tell_text-2.ensures.err

pub returns-in_default-clause-begun : goal.returns-in_default-clause-begun
unfolding fault_line line_from
returns-in_default-clause-begun g c =
    first_begun (g.E.Sink.pieces c.args.err.now) (g.E.Sink.pieces c.tell_text.new.err) (codes "lid:") (line_from c.args.words.now 0)
    c.in_default.ensures.begun

pub returns-in_default-tell_word-clause-begun : goal.returns-in_default-tell_word-clause-begun
returns-in_default-tell_word-clause-begun g c =
    word_part (g.E.Sink.pieces c.args.err.now) (g.E.Sink.pieces c.loop-word.err) (g.E.Sink.pieces c.tell_word.new.err)
    (fault_line (map spelled c.args.words.now)) c.args.words.now c.loop-word.word-index _ c.loop-word-test.true
    c.loop-word.invariant.pieces c.in_default-tell_word.ensures.begun

newline_left : (g : _) (c : goal.After-tell_text-2 g) → JoinedSoFar (g.E.Sink.pieces c.args.err.now) (g.E.Sink.pieces c.loop-word.err) (fault_line (map spelled c.args.words.now)) (10 ∷ [])
newline_left g c =
    subst (λ l. JoinedSoFar (g.E.Sink.pieces c.args.err.now) (g.E.Sink.pieces c.loop-word.err) (fault_line (map spelled c.args.words.now)) l)
    (line_from_end c.args.words.now c.loop-word.word-index c.loop-word-test.false) c.loop-word.invariant.pieces

pub returns-clause-pieces : goal.returns-clause-pieces
returns-clause-pieces g c =
    on_ok c.tell_text-2.result
    (λ a. all_joined (g.E.Sink.pieces c.args.err.now) (g.E.Sink.pieces c.tell_text-2.new.err) (fault_line (map spelled c.args.words.now))
    (more_joined (g.E.Sink.pieces c.args.err.now) (g.E.Sink.pieces c.loop-word.err) (g.E.Sink.pieces c.tell_text-2.new.err) (fault_line (map spelled c.args.words.now)) (10 ∷ []) [] (newline_left g c) a))
    c.tell_text-2.ensures.pieces

pub returns-clause-begun : goal.returns-clause-begun
returns-clause-begun g c =
    on_err c.tell_text-2.result
    (λ a. part_joined (g.E.Sink.pieces c.args.err.now) (g.E.Sink.pieces c.loop-word.err) (g.E.Sink.pieces c.tell_text-2.new.err) (fault_line (map spelled c.args.words.now)) (10 ∷ []) [] (newline_left g c) a)
    c.tell_text-2.ensures.begun
