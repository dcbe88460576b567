use Rattle.std.proofs.Common.{◌≡◌, ◌<◌, ◌++◌, ℕ, List, [], length, refl, sym, ◌∙◌, subst, arith}
use Rattle.std.proofs.lemmas.Bool.{eqb-true}
use Rattle.std.proofs.lemmas.List.{nil_from_length}
use Rattle.lid_base.proofs.Writes.{cut_whole}
use Rattle.lid_base_io.specs.Calls.{full_pieces}
use Rattle.lid_base_io.specs.Transfer.{after_pieces}
use Rattle.lid_base_io.proofs.Came.{none_came, more_came, some_came, all_came}
use Rattle.lid_base_io.proofs.Cutting.{part_cut, all_cut}
use Rattle.lid_base_io.proofs.Passing.{passing_begins, passing_goes_on, passing_stops, passing_ends}
use Rattle.lid_base_io.proofs.pieces.PieceWriter.push.Goals as goal

pub loop-left-init : goal.loop-left-init
loop-left-init g c =
    let short : length c.self.inside.bytes.items < 65536 = omega (arith, c.self.invariant.0, c.self.inside.bytes.ok.0) in
    record {
      so_far = passing_begins (g.O.Sink.written c.args.out.now) c.args.self.now c.args.bytes.now;
      calls = ([], none_came (g.O.Sink.pieces c.args.out.now), refl);
      still = refl;
      short = subst (λ (xs : List ℕ). length xs < 65536) c.self.view_is short;
      grows = omega arith;
    }

pub returns-in_default-clause-err : goal.returns-in_default-clause-err
returns-in_default-clause-err g c =
    let cut : c.split_at.result.0.now ++ c.split_at.result.1.now ≡ c.loop-left.left.now =
    cut_whole c.loop-left.left.now c.split_at.result.0.now c.split_at.result.1.now c.min.result c.split_at.ensures.front c.split_at.ensures.back in
    passing_stops (g.O.Sink.written c.args.out.now) (g.O.Sink.written c.loop-left.out) (g.O.Sink.written c.push_part.new.out)
    (c.args.self.now ++ c.args.bytes.now) c.loop-left.self c.loop-left.left.now c.split_at.result.0.now c.split_at.result.1.now
    c.loop-left.invariant.so_far cut c.in_default.ensures.err

pub loop-left-preserved : goal.loop-left-preserved
loop-left-preserved g c =
    let cut : c.split_at.result.0.now ++ c.split_at.result.1.now ≡ c.loop-left.left.now =
    cut_whole c.loop-left.left.now c.split_at.result.0.now c.split_at.result.1.now c.min.result c.split_at.ensures.front c.split_at.ensures.back in
    record {
      so_far =
          passing_goes_on (g.O.Sink.written c.args.out.now) (g.O.Sink.written c.loop-left.out) (g.O.Sink.written c.push_part.new.out)
          (c.args.self.now ++ c.args.bytes.now) c.loop-left.self c.loop-left.left.now c.split_at.result.0.now c.split_at.result.1.now c.push_part.new.self
          c.loop-left.invariant.so_far cut c.in-Ok.ensures.ok c.in-Ok.ensures.rest;
      calls =
          more_came (g.O.Sink.pieces c.args.out.now) (g.O.Sink.pieces c.loop-left.out) (g.O.Sink.pieces c.push_part.new.out)
          (full_pieces (c.args.self.now ++ c.args.bytes.now)) (full_pieces (c.loop-left.self ++ c.loop-left.left.now)) (full_pieces (c.push_part.new.self ++ c.split_at.result.1.now)) (full_pieces (c.loop-left.self ++ c.split_at.result.0.now))
          (part_cut c.loop-left.self c.loop-left.left.now c.split_at.result.0.now c.split_at.result.1.now c.push_part.new.self cut c.in-Ok.ensures.rest)
          c.loop-left.invariant.calls c.push_part.ensures.pieces;
      still = c.in-Ok.ensures.still ∙ c.loop-left.invariant.still;
      short = c.in-Ok.ensures.short;
      grows = let after = c.in-Ok.ensures.grows in let before = c.loop-left.invariant.grows in omega arith;
    }

pub returns-in_default-clause-begun : goal.returns-in_default-clause-begun
returns-in_default-clause-begun g c =
    let cut : c.split_at.result.0.now ++ c.split_at.result.1.now ≡ c.loop-left.left.now =
    cut_whole c.loop-left.left.now c.split_at.result.0.now c.split_at.result.1.now c.min.result c.split_at.ensures.front c.split_at.ensures.back in
    some_came (g.O.Sink.pieces c.args.out.now) (g.O.Sink.pieces c.loop-left.out) (g.O.Sink.pieces c.push_part.new.out)
    (full_pieces (c.args.self.now ++ c.args.bytes.now)) (full_pieces (c.loop-left.self ++ c.loop-left.left.now))
    (full_pieces (after_pieces (c.loop-left.self ++ c.split_at.result.0.now) ++ c.split_at.result.1.now)) (full_pieces (c.loop-left.self ++ c.split_at.result.0.now))
    (part_cut c.loop-left.self c.loop-left.left.now c.split_at.result.0.now c.split_at.result.1.now (after_pieces (c.loop-left.self ++ c.split_at.result.0.now)) cut refl)
    c.loop-left.invariant.calls c.push_part.ensures.pieces

pub returns-clause-pieces : goal.returns-clause-pieces
returns-clause-pieces g c =
    let e : c.loop-left.left.now ≡ [] = nil_from_length c.loop-left.left.now (eqb-true (length c.loop-left.left.now) 0 (sym c.loop-left-test.ensures)) in
    all_came (g.O.Sink.pieces c.args.out.now) (g.O.Sink.pieces c.loop-left.out) (full_pieces (c.args.self.now ++ c.args.bytes.now)) (full_pieces (c.loop-left.self ++ c.loop-left.left.now))
    (all_cut c.loop-left.self c.loop-left.left.now e c.loop-left.invariant.short) c.loop-left.invariant.calls

pub returns-clause-ok : goal.returns-clause-ok
returns-clause-ok g c =
    let e : c.loop-left.left.now ≡ [] = nil_from_length c.loop-left.left.now (eqb-true (length c.loop-left.left.now) 0 (sym c.loop-left-test.ensures)) in
    (passing_ends (g.O.Sink.written c.args.out.now) (g.O.Sink.written c.loop-left.out) (c.args.self.now ++ c.args.bytes.now) c.loop-left.self c.loop-left.left.now
    c.loop-left.invariant.so_far e c.loop-left.invariant.short).written

pub returns-clause-rest : goal.returns-clause-rest
returns-clause-rest g c =
    let e : c.loop-left.left.now ≡ [] = nil_from_length c.loop-left.left.now (eqb-true (length c.loop-left.left.now) 0 (sym c.loop-left-test.ensures)) in
    (passing_ends (g.O.Sink.written c.args.out.now) (g.O.Sink.written c.loop-left.out) (c.args.self.now ++ c.args.bytes.now) c.loop-left.self c.loop-left.left.now
    c.loop-left.invariant.so_far e c.loop-left.invariant.short).rest
