use Rattle.std.proofs.Common.{◌≡◌, arith}
use Rattle.lid_walk_machine.specs.Plans.{actors_of}
use Rattle.lid_walk_machine.specs.Setups.{plan}
use Rattle.lid_shell_laws.specs.Setups.{Setup}
use Rattle.lid_walk_machine.specs.Machine.{State}
use Rattle.lid_walk.specs.Walks.{Walks}
use Rattle.lid_walk.proofs.Sweeping.{none_yet, next_rests, one_more, swept_walks, swept_count, swept_rest, swept_idle}
use Rattle.lid_walk.proofs.Numbers.{few_actors}
use Rattle.lid_walk.proofs.walk.Walk.sweep.Goals as goal

pub turn-fired-requires : goal.turn-fired-requires
turn-fired-requires c = next_rests c.loop-actor.actor c.loop-actor.fired c.args.self.now c.loop-actor.self c.requires c.loop-actor.invariant (λ m st walks. let n = walks.actors.many in let t = c.loop-actor-test.true in omega arith)

pub loop-actor-init : goal.loop-actor-init
loop-actor-init c = none_yet _

pub loop-actor-preserved : goal.loop-actor-preserved
loop-actor-preserved c =
    one_more c.loop-actor.actor c.loop-actor.fired c.args.self.now c.loop-actor.self c.turn-fired.new.self c.turn-fired.result c.loop-actor.invariant c.turn-fired.ensures.once
    (λ m st walks. let n = walks.actors.many in let t = c.loop-actor-test.true in omega arith)
    c.turn-fired.ensures.walks c.turn-fired.ensures.fired

pub overflow_cast-actor-end : goal.overflow_cast-actor-end
overflow_cast-actor-end c =
    let (m, st, walks, rest) = c.requires in
    let n = walks.actors.many in
    let few = few_actors m walks.rules in
    let e = c.len-actor-end.ensures in
    omega arith

pub returns : goal.returns
returns c = record {
  walks = λ m st walks rest. swept_walks c.loop-actor.actor c.loop-actor.fired c.args.self.now c.loop-actor.self c.loop-actor.invariant m st walks rest (past c m st walks);
  fired = λ m st walks rest. swept_count c.loop-actor.actor c.loop-actor.fired c.args.self.now c.loop-actor.self c.loop-actor.invariant m st walks rest (past c m st walks);
  rest = λ m st walks rest. swept_rest c.loop-actor.actor c.loop-actor.fired c.args.self.now c.loop-actor.self c.loop-actor.invariant m st walks rest (past c m st walks);
  idle = λ m st walks rest none. swept_idle c.loop-actor.actor c.loop-actor.fired c.args.self.now c.loop-actor.self c.loop-actor.invariant m st walks rest (past c m st walks) none;
}
  where
    past : (c : goal.After-loop-actor) (m : Setup) (st : State) → Walks m st c.args.self.now → c.loop-actor.actor ≡ actors_of (plan m)
    past c m st walks =
        let n = walks.actors.many in
        let e = c.len-actor-end.ensures in
        let low = c.loop-actor-test.false in
        let high = c.loop-actor.auto.actor-end in
        omega arith
