use Rattle.std.proofs.Common.{refl}
use Rattle.lid_walk.proofs.Stepping.{works, answers_so, walks_then, has_place, is_actor}
use Rattle.lid_base.proofs.Places.{item_read}
use Rattle.lid_walk.proofs.walk.Walk.step.Goals as goal

pub step-requires : goal.step-requires
step-requires c =
    let (m, st, walks, h) = c.requires in
    let there = item_read c.args.self.now.actors.items c.args.actor c.index_mut.result.now (has_place c.args.self.now c.args.actor c.requires) c.index_mut.ensures.value in
    record { can = (m, c.args.actor, st c.args.actor, works m st c.args.self.now c.args.actor c.index_mut.result.now walks h there) }

pub returns-clause-walks : goal.returns-clause-walks
returns-clause-walks c m st walks =
    let there = item_read c.args.self.now.actors.items c.args.actor c.index_mut.result.now (has_place c.args.self.now c.args.actor c.requires) c.index_mut.ensures.value in
    walks_then m st c.args.self.now c.args.actor c.index_mut.result.now c.step.new.self c.step.new.board.pairs.items c.step.result walks (is_actor m st c.args.self.now c.args.actor c.requires walks) there c.step.ensures.steps c.step.ensures.exact _ c.step.ensures.moves _ refl refl

pub returns-clause-answers : goal.returns-clause-answers
returns-clause-answers c m st walks =
    let there = item_read c.args.self.now.actors.items c.args.actor c.index_mut.result.now (has_place c.args.self.now c.args.actor c.requires) c.index_mut.ensures.value in
    answers_so m st c.args.self.now c.args.actor c.index_mut.result.now c.step.new.self c.step.new.board.pairs.items c.step.result walks (is_actor m st c.args.self.now c.args.actor c.requires walks) there c.step.ensures.steps c.step.ensures.exact
