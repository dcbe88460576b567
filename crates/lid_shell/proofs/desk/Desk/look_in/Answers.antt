-- A look at a station that is drained.
use Rattle.std.proofs.Common.{ℕ, slice_index_or, sym, ◌∙◌, ap, arith}
use Rattle.lid_base.specs.declared.runs.Answer.TheVariants as answer
use Rattle.lid_walk_machine.specs.Machine.{in_at}
use Rattle.lid_walk_machine.specs.Setups.{plan}
use Rattle.lid_shell.proofs.Changed.{moves_marked, moves_missed}
use Rattle.lid_shell.proofs.Agreed.{agrees_token, agrees_void}
use Rattle.lid_shell.proofs.Told.{at_in, token_in, word_in, finds_token, finds_no_token}
use Rattle.lid_shell.proofs.Desks.{own_in, own_read, look_found, look_missed}
use Rattle.lid_shell.proofs.desk.Desk.look_in.Goals as goal

pub returns-in-Token-clause-looks : goal.returns-in-Token-clause-looks
returns-in-Token-clause-looks g c = λ m v q w about.
    let at = own_in m v q c.args.self.now c.as_slice.result.now c.args.i w.busy.at c.as_slice.ensures about.1 in
    let station : ℕ = slice_index_or c.as_slice.result.now c.args.i 0 in
    let value = token_in m v q c.args.i station c.in-Token.token _ w.agrees (omega arith) at (λ f there. c.in-Token.ensures.found _ f w.streams there) in
    record {
      answers = ap (λ (s : ℕ). answer.Token s c.in-Token.token) (sym (at_in m v c.args.i station at)) ∙ ap (λ (x : ℕ). answer.Token (in_at (plan m) v c.args.i) x) value;
      work = look_found m v q c.args.self.now _ _ w.busy (omega arith) (agrees_token m v q _ _ c.args.i station w.agrees about.0 at c.in-Token.ensures.changed) (c.in-Token.ensures.kept _ w.streams);
    }

pub returns-in-Token-clause-exact : goal.returns-in-Token-clause-exact
returns-in-Token-clause-exact g c = λ m v st w about serves.
    let at = own_in m v (st v) c.args.self.now c.as_slice.result.now c.args.i w.busy.at c.as_slice.ensures about.1 in
    finds_token m v c.args.i _ st _ (serves.ins c.args.i _ at) at (λ f d fills drains same. (c.in-Token.ensures.exact f d fills drains).1 same)

pub returns-in-Token-clause-moves : goal.returns-in-Token-clause-moves
returns-in-Token-clause-moves g c =
    let q = c.requires in
    moves_marked _ _ _ _ _ c.in-Token.ensures.changed (own_read q.setup q.number q.far c.args.self.now c.as_slice.result.now c.args.i q.work.busy.at c.as_slice.ensures q.about.1)

pub returns-in-Void-clause-looks : goal.returns-in-Void-clause-looks
returns-in-Void-clause-looks g c = λ m v q w about.
    let at = own_in m v q c.args.self.now c.as_slice.result.now c.args.i w.busy.at c.as_slice.ensures about.1 in
    let station : ℕ = slice_index_or c.as_slice.result.now c.args.i 0 in
    let value = word_in m v q c.args.i station c.in-Void.word _ w.agrees (omega arith) at (λ f there. c.in-Void.ensures.found _ f w.streams there) in
    record {
      answers = ap (λ (s : ℕ). answer.Void s c.in-Void.word) (sym (at_in m v c.args.i station at)) ∙ ap (λ (x : ℕ). answer.Void (in_at (plan m) v c.args.i) x) value;
      work = look_missed m v q c.args.self.now _ _ w.busy (agrees_void m v q _ _ c.args.i station w.agrees about.0 at c.in-Void.ensures.changed) (c.in-Void.ensures.kept _ w.streams);
    }

pub returns-in-Void-clause-exact : goal.returns-in-Void-clause-exact
returns-in-Void-clause-exact g c = λ m v st w about serves.
    let at = own_in m v (st v) c.args.self.now c.as_slice.result.now c.args.i w.busy.at c.as_slice.ensures about.1 in
    finds_no_token m v c.args.i _ st _ (serves.ins c.args.i _ at) at (λ f d fills drains. (c.in-Void.ensures.exact f d fills drains).0 tt)

pub returns-in-Void-clause-moves : goal.returns-in-Void-clause-moves
returns-in-Void-clause-moves g c =
    let q = c.requires in
    moves_missed _ _ _ _ _ c.in-Void.ensures.changed (own_read q.setup q.number q.far c.args.self.now c.as_slice.result.now c.args.i q.work.busy.at c.as_slice.ensures q.about.1)

pub returns-in-Token-clause-notes : goal.returns-in-Token-clause-notes
returns-in-Token-clause-notes g c =
    let q = c.requires in
    (_, own_read q.setup q.number q.far c.args.self.now c.as_slice.result.now c.args.i q.work.busy.at c.as_slice.ensures q.about.1, c.in-Token.ensures.steps)

pub returns-in-Void-clause-notes : goal.returns-in-Void-clause-notes
returns-in-Void-clause-notes g c =
    let q = c.requires in
    (_, own_read q.setup q.number q.far c.args.self.now c.as_slice.result.now c.args.i q.work.busy.at c.as_slice.ensures q.about.1, c.in-Void.ensures.steps)
