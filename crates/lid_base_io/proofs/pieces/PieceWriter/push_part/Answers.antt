use Rattle.std.proofs.Common.{◌≡◌, ◌++◌, ◌<◌, List, [], ◌∷◌, ℕ, length, ap, sym, ◌∙◌, subst, arith}
use Rattle.std.proofs.lemmas.List.{length-append}
use Rattle.lid_base.proofs.Results.{on_ok}
use Rattle.lid_base.specs.Outside.{Appended, Came}
use Rattle.lid_base_io.specs.Calls.{}
use Rattle.lid_base_io.proofs.Came.{none_came}
use Rattle.lid_base_io.proofs.Cutting.{none_full, one_full}
use Rattle.lid_base_io.proofs.Passing.{HasPassed, few_held, one_piece, none_left, part_added}
use Rattle.lid_base_io.proofs.pieces.PieceWriter.push_part.Goals as goal

few : (g : _) (c : goal.Then-len-lt-PIECE g) → HasPassed (g.O.Sink.written c.args.out.now) (g.O.Sink.written c.args.out.now) (c.args.self.now ++ c.args.part.now) c.extend_from_slice.new.self.items
few g c =
    let all : c.extend_from_slice.new.self.items ≡ c.args.self.now ++ c.args.part.now =
    part_added c.self.inside.bytes.items c.args.self.now c.extend_from_slice.new.self.items c.args.part.now c.self.view_is c.in-Ok.ensures.items in
    let short : length (c.args.self.now ++ c.args.part.now) < 65536 =
    subst (λ (xs : List ℕ). length xs < 65536) all (omega (arith, c.if-len-lt-PIECE.true, c.len.ensures, c.extend_from_slice.new.self.ok.0)) in
    subst (λ (xs : List ℕ). HasPassed (g.O.Sink.written c.args.out.now) (g.O.Sink.written c.args.out.now) (c.args.self.now ++ c.args.part.now) xs) (sym all)
    (few_held (g.O.Sink.written c.args.out.now) (c.args.self.now ++ c.args.part.now) short)

pub returns-then-len-lt-PIECE-clause-ok : goal.returns-then-len-lt-PIECE-clause-ok
returns-then-len-lt-PIECE-clause-ok g c = (few g c).written

pub returns-then-len-lt-PIECE-clause-rest : goal.returns-then-len-lt-PIECE-clause-rest
returns-then-len-lt-PIECE-clause-rest g c = (few g c).rest

pub returns-then-len-lt-PIECE-clause-pieces : goal.returns-then-len-lt-PIECE-clause-pieces
returns-then-len-lt-PIECE-clause-pieces g c =
    let all : c.extend_from_slice.new.self.items ≡ c.args.self.now ++ c.args.part.now =
    part_added c.self.inside.bytes.items c.args.self.now c.extend_from_slice.new.self.items c.args.part.now c.self.view_is c.in-Ok.ensures.items in
    let short : length (c.args.self.now ++ c.args.part.now) < 65536 =
    subst (λ (xs : List ℕ). length xs < 65536) all (omega (arith, c.if-len-lt-PIECE.true, c.len.ensures, c.extend_from_slice.new.self.ok.0)) in
    subst (λ (calls : List (List ℕ)). Came (g.O.Sink.pieces c.args.out.now) (g.O.Sink.pieces c.args.out.now) calls) (sym (none_full (c.args.self.now ++ c.args.part.now) short))
    (none_came (g.O.Sink.pieces c.args.out.now))

full_piece : (g : _) (c : goal.After-write_held g) → length (c.args.self.now ++ c.args.part.now) ≡ 65536
full_piece g c =
    let sum = length-append c.args.self.now c.args.part.now in
    let all : c.extend_from_slice.new.self.items ≡ c.args.self.now ++ c.args.part.now =
    part_added c.self.inside.bytes.items c.args.self.now c.extend_from_slice.new.self.items c.args.part.now c.self.view_is c.in-Ok.ensures.items in
    let size : length c.extend_from_slice.new.self.items ≡ length (c.args.self.now ++ c.args.part.now) = ap length all in
    omega (arith, sum, size, c.requires, c.if-len-lt-PIECE.false, c.len.ensures, c.extend_from_slice.new.self.ok.0)

pub returns-clause-ok : goal.returns-clause-ok
returns-clause-ok g c =
    let all : c.extend_from_slice.new.self.items ≡ c.args.self.now ++ c.args.part.now =
    part_added c.self.inside.bytes.items c.args.self.now c.extend_from_slice.new.self.items c.args.part.now c.self.view_is c.in-Ok.ensures.items in
    on_ok c.write_held.result
    (λ a. (one_piece (g.O.Sink.written c.args.out.now) (g.O.Sink.written c.write_held.new.out) (c.args.self.now ++ c.args.part.now) (full_piece g c)
    (subst (λ (piece : List ℕ). Appended (g.O.Sink.written c.args.out.now) (g.O.Sink.written c.write_held.new.out) piece) all a)).written)
    c.write_held.ensures.ok

pub returns-clause-rest : goal.returns-clause-rest
returns-clause-rest g c =
    on_ok c.write_held.result (λ a. c.write_held.ensures.none ∙ none_left (c.args.self.now ++ c.args.part.now) (full_piece g c)) c.write_held.ensures.ok

pub returns-clause-pieces : goal.returns-clause-pieces
returns-clause-pieces g c =
    let all : c.extend_from_slice.new.self.items ≡ c.args.self.now ++ c.args.part.now =
    part_added c.self.inside.bytes.items c.args.self.now c.extend_from_slice.new.self.items c.args.part.now c.self.view_is c.in-Ok.ensures.items in
    subst (λ (calls : List (List ℕ)). Came (g.O.Sink.pieces c.args.out.now) (g.O.Sink.pieces c.write_held.new.out) calls)
    (ap (λ (piece : List ℕ). piece ∷ []) all ∙ sym (one_full (c.args.self.now ++ c.args.part.now) (full_piece g c))) c.write_held.ensures.pieces
