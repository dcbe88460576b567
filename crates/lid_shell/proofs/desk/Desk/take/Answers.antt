-- A take.
use Rattle.std.proofs.Common.{◌≡◌, ℕ, ◌+◌, slice_index_or, sym, ap, subst, arith}
use Rattle.lid_shell.specs.declared.desk.Desk.{Desk}
use Rattle.lid_shell.specs.Actors.{IsDesk}
use Rattle.lid_shell.specs.Inside.{further}
use Rattle.lid_shell.proofs.Changed.{moves_advanced}
use Rattle.lid_shell.proofs.Agreed.{agrees_taken}
use Rattle.lid_shell.proofs.Told.{token_in}
use Rattle.lid_shell.proofs.Desks.{own_in, own_read, few_positions, busy_at, desk_took}
use Rattle.lid_shell.proofs.desk.Desk.take.Goals as goal

pub overflow_add-self : goal.overflow_add-self
overflow_add-self g c =
    let q = c.requires in
    let few = few_positions q.setup q.number q.far c.args.self.now q.work.busy in
    let same : c.keep.new.self.position ≡ c.args.self.now.position = ap (λ (d : Desk). d.position) c.keep.ensures.rest in
    omega arith

pub returns-clause-takes : goal.returns-clause-takes
returns-clause-takes g c = λ m v q w about.
    let d = c.args.self.now in
    let at = own_in m v q d c.as_slice.result.now c.args.i w.busy.at c.as_slice.ensures about.1 in
    let station : ℕ = slice_index_or c.as_slice.result.now c.args.i 0 in
    let value = token_in m v q c.args.i station c.take-token.result _ w.agrees (omega arith) at (λ f there. c.take-token.ensures.token _ f w.streams there) in
    let here : d.position + 1 ≡ q.position + 1 = ap (λ (n : ℕ). n + 1) w.busy.at.position_is in
    record {
      token_is = value;
      work = record {
        busy =
            busy_at m v q d _ (q.position + 1) w.busy (omega arith)
            (subst (λ (x : Desk). IsDesk m v (further q) (record x { position = x.position + 1 })) (sym c.keep.ensures.rest)
            (desk_took m v q d c.keep.new.self.taken c.args.i c.take-token.result (d.position + 1) w.busy.at about.0 about.1 c.keep.ensures.taken value here));
        agrees = agrees_taken m v q _ _ c.args.i station w.agrees about.0 at c.take-token.ensures.changed;
        streams = c.take-token.ensures.kept _ w.streams;
      };
    }

pub returns-clause-moves : goal.returns-clause-moves
returns-clause-moves g c =
    let q = c.requires in
    moves_advanced _ _ _ _ _ c.take-token.ensures.changed (own_read q.setup q.number q.far c.args.self.now c.as_slice.result.now c.args.i q.work.busy.at c.as_slice.ensures q.about.1)

pub returns-clause-notes : goal.returns-clause-notes
returns-clause-notes g c =
    let q = c.requires in
    (_, own_read q.setup q.number q.far c.args.self.now c.as_slice.result.now c.args.i q.work.busy.at c.as_slice.ensures q.about.1, c.take-token.ensures.steps)
