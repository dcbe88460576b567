use Rattle.std.proofs.Common.{refl, ◌∙◌, ap, arith}
use Rattle.lid_shell.specs.declared.turn.TurnEnd.{TurnEnd}
use Rattle.lid_shell.specs.Turns.{fired_at}
use Rattle.lid_walk.proofs.Stepping.{has_place}
use Rattle.lid_walk.proofs.Turning.{works_at_rest, walks_now, fired_now, fired_none}
use Rattle.lid_base.proofs.Places.{item_read}
use Rattle.lid_walk.proofs.walk.Walk.turn.Goals as goal

pub turn-requires : goal.turn-requires
turn-requires c =
    let (m, st, walks, h, rests) = c.requires in
    let there = item_read c.args.self.now.actors.items c.args.actor c.index_mut.result.now (has_place c.args.self.now c.args.actor (m, st, walks, h)) c.index_mut.ensures.value in
    record { can = (m, c.args.actor, (st c.args.actor).fired, works_at_rest m st c.args.self.now c.args.actor c.index_mut.result.now walks h rests there) }

pub returns-in-Fired : goal.returns-in-Fired
returns-in-Fired c = record {
  walks = λ m st walks rests. walks_now c.args.self.now c.args.actor c.index_mut.result.now c.turn.new.self c.turn.new.board.pairs.items c.turn.result c.requires c.index_mut.ensures.value c.turn.ensures.turned c.turn.ensures.exact m st walks rests _ c.turn.ensures.moves _ refl refl;
  fired = λ m st walks rests. fired_now c.args.self.now c.args.actor c.index_mut.result.now c.turn.new.self c.turn.new.board.pairs.items c.turn.result c.requires c.index_mut.ensures.value c.turn.ensures.turned c.turn.ensures.exact m st walks rests
      ∙ ap (λ (e : TurnEnd). fired_at e (st c.args.actor).fired) c.in-Fired.is;
  once = omega arith;
}

pub returns-in_default : goal.returns-in_default
returns-in_default c = record {
  walks = λ m st walks rests. walks_now c.args.self.now c.args.actor c.index_mut.result.now c.turn.new.self c.turn.new.board.pairs.items c.turn.result c.requires c.index_mut.ensures.value c.turn.ensures.turned c.turn.ensures.exact m st walks rests _ c.turn.ensures.moves _ refl refl;
  fired = λ m st walks rests. fired_now c.args.self.now c.args.actor c.index_mut.result.now c.turn.new.self c.turn.new.board.pairs.items c.turn.result c.requires c.index_mut.ensures.value c.turn.ensures.turned c.turn.ensures.exact m st walks rests
      ∙ fired_none c.turn.result (st c.args.actor).fired c.in_default.not-Fired;
  once = omega arith;
}
