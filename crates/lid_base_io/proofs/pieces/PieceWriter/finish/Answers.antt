use Rattle.std.proofs.Common.{◌≡◌, ℕ, ◌<◌, ◌≤◌, List, [], length, sym, ◌∙◌, ap, subst, arith}
use Rattle.std.proofs.lemmas.Bool.{eqb-true}
use Rattle.std.proofs.lemmas.List.{nil_from_length}
use Rattle.lid_base.specs.Outside.{Came}
use Rattle.lid_base_io.specs.Calls.{pieces_of}
use Rattle.lid_base_io.proofs.Came.{none_came}
use Rattle.lid_base_io.proofs.Cutting.{some_left, one_cut}
use Rattle.lid_base_io.proofs.pieces.PieceWriter.finish.Goals as goal

pub returns-then-is_empty-clause-pieces : goal.returns-then-is_empty-clause-pieces
returns-then-is_empty-clause-pieces g c =
    let none = eqb-true _ 0 (sym c.is_empty.ensures ∙ c.if-is_empty.true) in
    let e : c.self.inside.bytes.items ≡ [] = nil_from_length c.self.inside.bytes.items (omega (arith, none, c.self.inside.bytes.ok.0)) in
    subst (λ (xs : List ℕ). Came (g.O.Sink.pieces c.args.out.now) (g.O.Sink.pieces c.args.out.now) (pieces_of xs)) (sym e ∙ c.self.view_is) (none_came (g.O.Sink.pieces c.args.out.now))

pub returns-clause-pieces : goal.returns-clause-pieces
returns-clause-pieces g c =
    let more = some_left _ (sym c.is_empty.ensures ∙ c.if-is_empty.false) in
    let some : 0 < length c.self.inside.bytes.items = omega (arith, more, c.self.inside.bytes.ok.0) in
    let few : length c.self.inside.bytes.items ≤ 65536 = omega (arith, c.self.invariant.0, c.self.inside.bytes.ok.0) in
    subst (λ (calls : List (List ℕ)). Came (g.O.Sink.pieces c.args.out.now) (g.O.Sink.pieces c.write_held.new.out) calls)
    (sym (one_cut c.self.inside.bytes.items some few) ∙ ap (λ (xs : List ℕ). pieces_of xs) c.self.view_is) c.write_held.ensures.pieces
