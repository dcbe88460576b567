-- A look at a station that is filled.
use Rattle.std.proofs.Common.{ℕ, slice_index_or, sym, ◌∙◌, ap, arith}
use Rattle.lid_base.specs.declared.runs.Answer.TheVariants as answer
use Rattle.lid_walk_machine.specs.Machine.{out_at}
use Rattle.lid_walk_machine.specs.Setups.{plan}
use Rattle.lid_shell.proofs.Changed.{moves_marked, moves_missed}
use Rattle.lid_shell.proofs.Agreed.{agrees_room, agrees_stop}
use Rattle.lid_shell.proofs.Told.{at_out, word_out, finds_room, finds_no_room}
use Rattle.lid_shell.proofs.Desks.{own_out, own_wrote, few_positions, look_found, look_missed}
use Rattle.lid_shell.proofs.desk.Desk.look_out.Goals as goal

pub overflow_add-self : goal.overflow_add-self
overflow_add-self g c =
    let q = c.requires in
    let few = few_positions q.setup q.number q.far c.args.self.now q.work.busy in
    omega arith

pub returns-in-Room-clause-looks : goal.returns-in-Room-clause-looks
returns-in-Room-clause-looks g c = λ m v q w about.
    let at = own_out m v q c.args.self.now c.as_slice.result.now c.args.j w.busy.at c.as_slice.ensures about.1 in
    let station : ℕ = slice_index_or c.as_slice.result.now c.args.j 0 in
    record {
      answers = ap (λ (s : ℕ). answer.Room s) (sym (at_out m v c.args.j station at));
      work = look_found m v q c.args.self.now _ _ w.busy (omega arith) (agrees_room m v q _ _ c.args.j station w.agrees about.0 at c.in-Room.ensures.changed) (c.in-Room.ensures.kept _ w.streams);
    }

pub returns-in-Room-clause-exact : goal.returns-in-Room-clause-exact
returns-in-Room-clause-exact g c = λ m v st w about serves.
    let at = own_out m v (st v) c.args.self.now c.as_slice.result.now c.args.j w.busy.at c.as_slice.ensures about.1 in
    finds_room m v c.args.j _ (st v) st _ w.busy.rules w.agrees (serves.outs c.args.j _ at) at (λ f d fills drains full. (c.in-Room.ensures.exact f d fills drains).1 full)

pub returns-in-Room-clause-moves : goal.returns-in-Room-clause-moves
returns-in-Room-clause-moves g c =
    let q = c.requires in
    moves_marked _ _ _ _ _ c.in-Room.ensures.changed (own_wrote q.setup q.number q.far c.args.self.now c.as_slice.result.now c.args.j q.work.busy.at c.as_slice.ensures q.about.1)

pub returns-in-Stop-clause-looks : goal.returns-in-Stop-clause-looks
returns-in-Stop-clause-looks g c = λ m v q w about.
    let at = own_out m v q c.args.self.now c.as_slice.result.now c.args.j w.busy.at c.as_slice.ensures about.1 in
    let station : ℕ = slice_index_or c.as_slice.result.now c.args.j 0 in
    let value = word_out m v q c.args.j station c.in-Stop.word _ w.agrees (omega arith) at (λ f there. c.in-Stop.ensures.found _ f w.streams there) in
    record {
      answers = ap (λ (s : ℕ). answer.Stop s c.in-Stop.word) (sym (at_out m v c.args.j station at)) ∙ ap (λ (x : ℕ). answer.Stop (out_at (plan m) v c.args.j) x) value;
      work = look_missed m v q c.args.self.now _ _ w.busy (agrees_stop m v q _ _ c.args.j station w.agrees about.0 at c.in-Stop.ensures.changed) (c.in-Stop.ensures.kept _ w.streams);
    }

pub returns-in-Stop-clause-exact : goal.returns-in-Stop-clause-exact
returns-in-Stop-clause-exact g c = λ m v st w about serves.
    let at = own_out m v (st v) c.args.self.now c.as_slice.result.now c.args.j w.busy.at c.as_slice.ensures about.1 in
    finds_no_room m v c.args.j _ (st v) st _ w.agrees (serves.outs c.args.j _ at) at (λ f d fills drains. (c.in-Stop.ensures.exact f d fills drains).0 tt)

pub returns-in-Stop-clause-moves : goal.returns-in-Stop-clause-moves
returns-in-Stop-clause-moves g c =
    let q = c.requires in
    moves_missed _ _ _ _ _ c.in-Stop.ensures.changed (own_wrote q.setup q.number q.far c.args.self.now c.as_slice.result.now c.args.j q.work.busy.at c.as_slice.ensures q.about.1)

pub returns-in-Room-clause-notes : goal.returns-in-Room-clause-notes
returns-in-Room-clause-notes g c =
    let q = c.requires in
    (_, own_wrote q.setup q.number q.far c.args.self.now c.as_slice.result.now c.args.j q.work.busy.at c.as_slice.ensures q.about.1, c.in-Room.ensures.steps)

pub returns-in-Stop-clause-notes : goal.returns-in-Stop-clause-notes
returns-in-Stop-clause-notes g c =
    let q = c.requires in
    (_, own_wrote q.setup q.number q.far c.args.self.now c.as_slice.result.now c.args.j q.work.busy.at c.as_slice.ensures q.about.1, c.in-Stop.ensures.steps)
