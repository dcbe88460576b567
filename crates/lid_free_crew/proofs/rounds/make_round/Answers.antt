use Rattle.std.proofs.Common.{◌≡◌, ℕ, ◌+◌, ◌<◌, length, get_or, refl, sym, subst, arith}
use Rattle.std.specs.Prelude.{Some, slice_get}
use Rattle.std.proofs.lemmas.Option.{slice_get-get_or}
use Rattle.lid_base.specs.declared.runs.Tally.{Tally}
use Rattle.lid_board.specs.Owners.{steps_of}
use Rattle.lid_free_crew.specs.Posts.{known}
use Rattle.lid_free_crew.specs.Order.{stage, TurnsMade}
use Rattle.lid_free_crew.specs.Rounds.{Made}
use Rattle.lid_free_crew.proofs.Rounding.{upto}
use Rattle.lid_free_crew.proofs.Ordering.{one_turn_made}
use Rattle.lid_free_crew.proofs.Circling.{IsPartway, entry_made, still_at_work, one_further, whole_round}
use Rattle.lid_free_crew.proofs.Idling.{done_partway, done_in_order}
use Rattle.lid_free_crew.proofs.rounds.make_round.Goals as goal

pub loop-at-init : goal.loop-at-init
loop-at-init c =
    let board = c.args.board.now in
    let hand = c.args.hand.now in
    let actors = c.args.actors.now in
    let tally = c.args.tally.now in
    record {
      of = c.requires.of;
      partway =
          subst (λ (t : Tally). IsPartway board c.args.done (known hand) actors tally (known hand) actors t) (sym c.count_done.ensures)
          (done_partway board (known hand) actors tally c.requires.adds_up c.requires.apart c.args.done c.requires.within c.requires.done);
      in_order =
          subst (λ (t : Tally). TurnsMade board c.args.done (stage hand actors tally) (stage hand actors t)) (sym c.count_done.ensures)
          (done_in_order board (known hand) actors tally (steps_of hand) c.args.done c.requires.within c.requires.done);
    }

entry : (c : goal.After-make_turn-arg-in-loop-at-1) → Made c.args.board.now (upto (λ _. 0) c.loop-at.at) (0 + c.loop-at.at) (known c.args.hand.now) c.args.actors.now c.args.tally.now (known c.loop-at.hand) c.loop-at.actors c.loop-at.tally
entry c = entry_made c.args.board.now c.loop-at.at (known c.args.hand.now) c.args.actors.now c.args.tally.now (known c.loop-at.hand) c.loop-at.actors c.loop-at.tally c.requires.adds_up c.loop-at.invariant.partway

pub make_turn-requires-clause-at_work : goal.make_turn-requires-clause-at_work
make_turn-requires-clause-at_work c =
    let within = c.loop-at-test.true in
    let long = c.loop-at.auto.actors in
    still_at_work c.args.board.now (upto (λ _. 0) c.loop-at.at) (0 + c.loop-at.at) (known c.args.hand.now) c.args.actors.now c.args.tally.now (known c.loop-at.hand) c.loop-at.actors c.loop-at.tally (entry c) c.requires.at_work
    c.loop-at.at (get_or c.loop-at.actors c.loop-at.at c.index-actors-at.result) (slice_get-get_or c.loop-at.actors c.loop-at.at c.index-actors-at.result (omega arith))

pub make_turn-requires-clause-adds_up : goal.make_turn-requires-clause-adds_up
make_turn-requires-clause-adds_up c = (entry c).adds_up

pub make_turn-requires-clause-room : goal.make_turn-requires-clause-room
make_turn-requires-clause-room c =
    let within = c.loop-at-test.true in
    let turns = (entry c).turns_are in
    let room = c.requires.room in
    omega arith

pub loop-at-preserved : goal.loop-at-preserved
loop-at-preserved c =
    let within = c.loop-at-test.true in
    let long = c.loop-at.auto.actors in
    let there = slice_get-get_or c.loop-at.actors c.loop-at.at c.index-actors-at.result (omega arith) in
    record {
      of = c.make_turn.ensures.of;
      partway =
          one_further c.args.board.now c.loop-at.at (known c.args.hand.now) c.args.actors.now c.args.tally.now (known c.loop-at.hand) c.loop-at.actors c.loop-at.tally (known c.make_turn.new.hand) c.make_turn.new.tally
          (get_or c.loop-at.actors c.loop-at.at c.index-actors-at.result) c.make_turn.new.actor c.requires.adds_up c.requires.apart c.loop-at.invariant.partway
          there c.make_turn.ensures.turn;
      in_order =
          one_turn_made c.args.board.now c.loop-at.at (stage c.args.hand.now c.args.actors.now c.args.tally.now) (stage c.loop-at.hand c.loop-at.actors c.loop-at.tally) _ c.loop-at.invariant.in_order
          (record {
            old = get_or c.loop-at.actors c.loop-at.at c.index-actors-at.result;
            new = c.make_turn.new.actor;
            there = there;
            turn = c.make_turn.ensures.turn;
            steps = c.make_turn.ensures.steps;
            others = refl;
          });
    }

pub returns-clause-round : goal.returns-clause-round
returns-clause-round c =
    let past = c.loop-at-test.false in
    let most = c.requires.within in
    let high = c.loop-at.auto.at-end in
    whole_round c.args.board.now c.loop-at.at (known c.args.hand.now) c.args.actors.now c.args.tally.now (known c.loop-at.hand) c.loop-at.actors c.loop-at.tally c.requires.adds_up c.loop-at.invariant.partway (omega arith)

pub returns-clause-in_order : goal.returns-clause-in_order
returns-clause-in_order c =
    let past = c.loop-at-test.false in
    let most = c.requires.within in
    let high = c.loop-at.auto.at-end in
    let all : c.loop-at.at ≡ length c.args.actors.now = omega arith in
    subst (λ (n : ℕ). TurnsMade c.args.board.now n (stage c.args.hand.now c.args.actors.now c.args.tally.now) (stage c.loop-at.hand c.loop-at.actors c.loop-at.tally)) all c.loop-at.invariant.in_order
