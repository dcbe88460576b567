use Rattle.std.proofs.Common.{◌≡◌, ℕ, ◌<◌, ◌≤◌, List, [], ◌∷◌, length, refl, sym, ◌∙◌, ap, subst, arith}
use Rattle.std.proofs.lemmas.Bool.{eqb-true}
use Rattle.std.proofs.lemmas.List.{length-take, nil_from_length}
use Rattle.lid_base.proofs.Writes.{nothing_yet, one_more_cut, part_written_cut}
use Rattle.lid_base_io.specs.Calls.{pieces_of}
use Rattle.lid_base_io.proofs.Came.{none_came, more_came, some_came, all_came}
use Rattle.lid_base_io.proofs.Cutting.{some_left, piece_cut}
use Rattle.lid_base_io.proofs.writing.write_all.Goals as goal

pub loop-left-init : goal.loop-left-init
loop-left-init g c = record {
  so_far = nothing_yet (g.O.Sink.written c.args.out.now) c.args.text.now;
  calls = ([], none_came (g.O.Sink.pieces c.args.out.now), refl);
  still = refl;
  grows = omega arith;
}

pub write-requires-clause-some : goal.write-requires-clause-some
write-requires-clause-some g c =
    let some = some_left (length c.loop-left.left.now) (sym c.loop-left-test.ensures) in
    subst (λ (xs : List ℕ). 0 < length xs) (sym c.split_at.ensures.front) (omega (arith, length-take c.min.result c.loop-left.left.now, c.min.ensures, some))

pub write-requires-clause-few : goal.write-requires-clause-few
write-requires-clause-few g c =
    subst (λ (xs : List ℕ). length xs ≤ 65536) (sym c.split_at.ensures.front) (omega (arith, length-take c.min.result c.loop-left.left.now, c.min.ensures))

pub loop-left-preserved : goal.loop-left-preserved
loop-left-preserved g c = record {
  so_far =
      one_more_cut (g.O.Sink.written c.args.out.now) (g.O.Sink.written c.loop-left.out) (g.O.Sink.written c.write.new.self)
      c.args.text.now c.loop-left.left.now c.split_at.result.0.now c.split_at.result.1.now c.min.result c.loop-left.invariant.so_far
      c.split_at.ensures.front c.split_at.ensures.back c.in-Ok.ensures.ok;
  calls =
      more_came (g.O.Sink.pieces c.args.out.now) (g.O.Sink.pieces c.loop-left.out) (g.O.Sink.pieces c.write.new.self)
      (pieces_of c.args.text.now) (pieces_of c.loop-left.left.now) (pieces_of c.split_at.result.1.now) (c.split_at.result.0.now ∷ [])
      (piece_cut c.loop-left.left.now c.split_at.result.0.now c.split_at.result.1.now c.min.result (some_left (length c.loop-left.left.now) (sym c.loop-left-test.ensures)) c.min.ensures c.split_at.ensures.front c.split_at.ensures.back)
      c.loop-left.invariant.calls c.write.ensures.told;
  still = c.in-Ok.ensures.still ∙ c.loop-left.invariant.still;
  grows = let after = c.in-Ok.ensures.grows in let before = c.loop-left.invariant.grows in omega arith;
}

pub returns-in_default-clause-err : goal.returns-in_default-clause-err
returns-in_default-clause-err g c =
    part_written_cut (g.O.Sink.written c.args.out.now) (g.O.Sink.written c.loop-left.out) (g.O.Sink.written c.write.new.self)
    c.args.text.now c.loop-left.left.now c.split_at.result.0.now c.split_at.result.1.now c.min.result c.loop-left.invariant.so_far
    c.split_at.ensures.front c.split_at.ensures.back c.in_default.ensures.err

pub returns-in_default-clause-begun : goal.returns-in_default-clause-begun
returns-in_default-clause-begun g c =
    some_came (g.O.Sink.pieces c.args.out.now) (g.O.Sink.pieces c.loop-left.out) (g.O.Sink.pieces c.write.new.self)
    (pieces_of c.args.text.now) (pieces_of c.loop-left.left.now) (pieces_of c.split_at.result.1.now) (c.split_at.result.0.now ∷ [])
    (piece_cut c.loop-left.left.now c.split_at.result.0.now c.split_at.result.1.now c.min.result (some_left (length c.loop-left.left.now) (sym c.loop-left-test.ensures)) c.min.ensures c.split_at.ensures.front c.split_at.ensures.back)
    c.loop-left.invariant.calls c.write.ensures.told

pub returns-clause-pieces : goal.returns-clause-pieces
returns-clause-pieces g c =
    let e : c.loop-left.left.now ≡ [] = nil_from_length c.loop-left.left.now (eqb-true (length c.loop-left.left.now) 0 (sym c.loop-left-test.ensures)) in
    all_came (g.O.Sink.pieces c.args.out.now) (g.O.Sink.pieces c.loop-left.out) (pieces_of c.args.text.now) (pieces_of c.loop-left.left.now)
    (ap (λ (xs : List ℕ). pieces_of xs) e) c.loop-left.invariant.calls
