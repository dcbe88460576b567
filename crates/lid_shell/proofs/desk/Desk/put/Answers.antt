-- A put.
use Rattle.std.proofs.Common.{ℕ, ◌+◌, ◌<◌, ◌^◌, slice_index_or, sym, ◌∙◌, ap, subst, arith}
use Rattle.lid_walk_machine.specs.Plans.{stream, start_of}
use Rattle.lid_walk_machine.specs.Setups.{plan}
use Rattle.lid_shell.proofs.Changed.{moves_advanced}
use Rattle.lid_shell.proofs.Agreed.{agrees_put}
use Rattle.lid_shell.proofs.Streams.{token_small}
use Rattle.lid_shell.proofs.Told.{at_out, put_next}
use Rattle.lid_shell.proofs.Desks.{own_out, own_wrote, few_positions, busy_at, desk_put, made_at}
use Rattle.lid_shell.proofs.desk.Desk.put.Goals as goal

pub put-requires-clause-small : goal.put-requires-clause-small
put-requires-clause-small g c =
    let q = c.requires in
    let at = own_out q.setup q.number q.far c.args.self.now c.as_slice-2.result.now c.args.j q.work.busy.at c.as_slice-2.ensures q.about.1 in
    let is = made_at q.setup q.number q.far.fired c.as_slice.result.now c.args.self.now.tokens.items c.args.j _ q.ready c.as_slice.ensures at in
    let small = token_small q.setup (slice_index_or c.as_slice-2.result.now c.args.j 0) (start_of (plan q.setup) (slice_index_or c.as_slice-2.result.now c.args.j 0) + q.far.fired) q.work.busy.rules in
    subst (λ (n : ℕ). n < 2 ^ 31) (sym is) small

pub put-requires-clause-admitted : goal.put-requires-clause-admitted
put-requires-clause-admitted g c =
    let q = c.requires in
    let station : ℕ = slice_index_or c.as_slice-2.result.now c.args.j 0 in
    let at = own_out q.setup q.number q.far c.args.self.now c.as_slice-2.result.now c.args.j q.work.busy.at c.as_slice-2.ensures q.about.1 in
    let is = made_at q.setup q.number q.far.fired c.as_slice.result.now c.args.self.now.tokens.items c.args.j station q.ready c.as_slice.ensures at in
    let had = q.work.agrees.fills c.args.j station at in
    g.met.B.Stations.next_is_admitted c.args.board.now (stream (plan q.setup)) station _ had.0 q.work.streams had.1
    (put_next c.actors_go_by_rules.ensures q.setup q.number q.far c.args.j station _ _ had.0 q.work.busy.rules q.work.agrees q.about.0 at q.work.busy.below is had.1)

pub overflow_add-self : goal.overflow_add-self
overflow_add-self g c =
    let q = c.requires in
    let few = few_positions q.setup q.number q.far c.args.self.now q.work.busy in
    omega arith

pub returns-clause-puts : goal.returns-clause-puts
returns-clause-puts g c = λ m v q w about ready.
    let d = c.args.self.now in
    let station : ℕ = slice_index_or c.as_slice-2.result.now c.args.j 0 in
    let at = own_out m v q d c.as_slice-2.result.now c.args.j w.busy.at c.as_slice-2.ensures about.1 in
    let is = made_at m v q.fired c.as_slice.result.now d.tokens.items c.args.j station ready c.as_slice.ensures at in
    let had = w.agrees.fills c.args.j station at in
    let next = put_next c.actors_go_by_rules.ensures m v q c.args.j station _ _ had.0 w.busy.rules w.agrees about.0 at w.busy.below is had.1 in
    record {
      token_is = is ∙ ap (λ (s : ℕ). (plan m).token s (start_of (plan m) s + q.fired)) (sym (at_out m v c.args.j station at));
      work = record {
        busy = busy_at m v q d (record d { position = d.position + 1 }) (q.position + 1) w.busy (omega arith) (desk_put m v q d (d.position + 1) w.busy.at (omega arith) ready (ap (λ (n : ℕ). n + 1) w.busy.at.position_is));
        agrees = agrees_put m v q _ _ c.args.j station w.agrees about.0 at c.put.ensures.changed;
        streams = c.put.ensures.kept _ had.0 w.streams had.1 next;
      };
    }

pub returns-clause-moves : goal.returns-clause-moves
returns-clause-moves g c =
    let q = c.requires in
    moves_advanced _ _ _ _ _ c.put.ensures.changed (own_wrote q.setup q.number q.far c.args.self.now c.as_slice-2.result.now c.args.j q.work.busy.at c.as_slice-2.ensures q.about.1)

pub returns-clause-notes : goal.returns-clause-notes
returns-clause-notes g c =
    let q = c.requires in
    (_, own_wrote q.setup q.number q.far c.args.self.now c.as_slice-2.result.now c.args.j q.work.busy.at c.as_slice-2.ensures q.about.1, c.put.ensures.steps)
