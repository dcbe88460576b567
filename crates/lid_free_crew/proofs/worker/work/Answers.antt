use Rattle.std.proofs.Common.{◌≡◌, ℕ, ◌≤◌, List, length, refl, sym, ◌∙◌, ap, subst, arith}
use Rattle.std.specs.Prelude.{Some, slice_get}
use Rattle.std.specs.Vec.{with_items}
use Rattle.std.proofs.lemmas.List.{with_items_is}
use Rattle.lid_shell.specs.declared.actor.Actor.{Actor}
use Rattle.lid_base.specs.declared.runs.Tally.{Tally}
use Rattle.lid_station.specs.Boards.{Ends}
use Rattle.lid_board.specs.declared.board.Board.{Board}
use Rattle.lid_free_crew.specs.Posts.{known, IsReady, AreApart}
use Rattle.lid_free_crew.specs.Order.{stage, stage_of, TurnsMade}
use Rattle.lid_free_crew.specs.Rounds.{AreDone, GoesRound}
use Rattle.lid_free_crew.specs.declared.worker.Worker.{Worker}
use Rattle.lid_free_crew.proofs.Circling.{still_apart}
use Rattle.lid_free_crew.proofs.Idling.{done_stays}
use Rattle.lid_free_crew.proofs.Worked.{IsAt, not_yet, at_work_still, one_round, round_long, all_rounds, stays, gone, tallied, alone}
use Rattle.lid_free_crew.proofs.worker.work.Given.{Over}
use Rattle.lid_free_crew.proofs.worker.work.Goals as goal

pub loop-round-init : goal.loop-round-init
loop-round-init g c = record {
  at = not_yet c.args.board.now c.args.worker.now c.requires.ready;
  within = omega arith;
  done = λ i a low at. absurd (omega (arith, low));
}

pub make_round-requires-clause-at_work : goal.make_round-requires-clause-at_work
make_round-requires-clause-at_work g c = λ i a at.
    at_work_still c.args.board.now c.loop-round.round c.args.worker.now c.loop-round.worker c.requires.ready c.loop-round.invariant.at
    i a (ap (λ (l : List Actor). slice_get l i) (sym c.as_mut_slice.ensures.value) ∙ at)

pub make_round-requires-clause-apart : goal.make_round-requires-clause-apart
make_round-requires-clause-apart g c =
    let x = c.args.worker.now in
    let y = c.loop-round.worker in
    subst AreApart (sym c.as_mut_slice.ensures.value)
    (still_apart c.args.board.now (λ _. c.loop-round.round) _ (known x.hand) x.actors.items x.tally (known y.hand) y.actors.items y.tally c.loop-round.invariant.at.made c.requires.ready.apart)

pub make_round-requires-clause-within : goal.make_round-requires-clause-within
make_round-requires-clause-within g c = subst (λ (l : List Actor). c.loop-round.done ≤ length l) (sym c.as_mut_slice.ensures.value) c.loop-round.invariant.within

pub make_round-requires-clause-done : goal.make_round-requires-clause-done
make_round-requires-clause-done g c = subst (AreDone c.loop-round.done) (sym c.as_mut_slice.ensures.value) c.loop-round.invariant.done

-- the round goes over the worker's actors, and there are as many as before
module _ (board : Board) (rounds done : ℕ) (x y : Worker) (ready : IsReady board x) (is_at : IsAt board rounds x y) (now : Ends) (olds news : List Actor) (is : Tally)
    (same : olds ≡ y.actors.items) (made : GoesRound board (known y.hand) olds y.tally now news is) where
  round : GoesRound board (known y.hand) y.actors.items y.tally now news is
  round = subst (λ (l : List Actor). GoesRound board (known y.hand) l y.tally now news is) same made

  long : length news ≡ length y.actors.items
  long = round_long board (known y.hand) now y.actors.items news y.tally is is_at.made.adds_up round

  items : (with_items y.actors news).items ≡ news
  items = with_items_is y.actors news (long ∙ sym y.actors.ok.0)

  within_still : (seen : List Actor) → seen ≡ (with_items y.actors news).items → done ≤ length y.actors.items → done ≤ length seen
  within_still seen is_seen within = let many = ap length (is_seen ∙ items) in let size = long in omega arith

  done_still : (seen : List Actor) → seen ≡ (with_items y.actors news).items → AreDone done y.actors.items → AreDone done seen
  done_still seen is_seen done_ =
      subst (AreDone done) (sym (is_seen ∙ items))
      (done_stays board (known y.hand) y.actors.items y.tally now news is done is_at.made.adds_up (at_work_still board rounds x y ready is_at) round done_)

pub done_first-done-requires-clause-within : goal.done_first-done-requires-clause-within
done_first-done-requires-clause-within g c =
    within_still c.args.board.now c.loop-round.round c.loop-round.done c.args.worker.now c.loop-round.worker c.requires.ready c.loop-round.invariant.at (known c.make_round.new.hand) c.as_mut_slice.result.now c.make_round.new.actors c.make_round.new.tally
    c.as_mut_slice.ensures.value c.make_round.ensures.round c.as_slice.result.now c.as_slice.ensures.value c.loop-round.invariant.within

pub done_first-done-requires-clause-done : goal.done_first-done-requires-clause-done
done_first-done-requires-clause-done g c =
    done_still c.args.board.now c.loop-round.round c.loop-round.done c.args.worker.now c.loop-round.worker c.requires.ready c.loop-round.invariant.at (known c.make_round.new.hand) c.as_mut_slice.result.now c.make_round.new.actors c.make_round.new.tally
    c.as_mut_slice.ensures.value c.make_round.ensures.round c.as_slice.result.now c.as_slice.ensures.value c.loop-round.invariant.done

pub loop-round-preserved : goal.loop-round-preserved
loop-round-preserved g c =
    let y = c.loop-round.worker in
    let round : GoesRound c.args.board.now (known y.hand) y.actors.items y.tally (known c.make_round.new.hand) c.make_round.new.actors c.make_round.new.tally =
    subst (λ (l : List Actor). GoesRound c.args.board.now (known y.hand) l y.tally (known c.make_round.new.hand) c.make_round.new.actors c.make_round.new.tally) c.as_mut_slice.ensures.value c.make_round.ensures.round in
    let long = round_long c.args.board.now (known y.hand) (known c.make_round.new.hand) y.actors.items c.make_round.new.actors y.tally c.make_round.new.tally c.loop-round.invariant.at.made.adds_up round in
    let turns : TurnsMade c.args.board.now (length y.actors.items) (stage_of y) (stage c.make_round.new.hand c.make_round.new.actors c.make_round.new.tally) =
    subst (λ (l : List Actor). TurnsMade c.args.board.now (length l) (stage y.hand l y.tally) (stage c.make_round.new.hand c.make_round.new.actors c.make_round.new.tally)) c.as_mut_slice.ensures.value c.make_round.ensures.in_order in
    let news = sym (with_items_is y.actors c.make_round.new.actors (long ∙ sym y.actors.ok.0)) in
    record {
      at =
          one_round c.args.board.now c.loop-round.round c.args.worker.now y _ c.loop-round.invariant.at refl c.make_round.ensures.of
          (subst (λ (l : List Actor). GoesRound c.args.board.now (known y.hand) y.actors.items y.tally (known c.make_round.new.hand) l c.make_round.new.tally) news round)
          (subst (λ (l : List Actor). TurnsMade c.args.board.now (length y.actors.items) (stage_of y) (stage c.make_round.new.hand l c.make_round.new.tally)) news turns);
      within = subst (λ (l : List Actor). c.done_first-done.result ≤ length l) c.as_slice.ensures.value c.done_first-done.ensures.within;
      done = subst (AreDone c.done_first-done.result) c.as_slice.ensures.value c.done_first-done.ensures.done;
    }

at : (g : Over) (c : goal.After-loop-round g) → IsAt c.args.board.now c.args.rounds c.args.worker.now c.loop-round.worker
at g c =
    let past = c.loop-round-test.false in
    let high = c.loop-round.auto.round-end in
    all_rounds c.args.board.now c.loop-round.round c.args.rounds c.args.worker.now c.loop-round.worker c.loop-round.invariant.at (omega arith)

pub returns-clause-gone : goal.returns-clause-gone
returns-clause-gone g c = gone c.args.board.now c.args.rounds c.args.worker.now c.loop-round.worker c.requires.ready (at g c)

pub returns-clause-tally : goal.returns-clause-tally
returns-clause-tally g c = tallied c.args.board.now c.args.rounds c.args.worker.now c.loop-round.worker c.requires.ready (at g c)

pub returns-clause-in_order : goal.returns-clause-in_order
returns-clause-in_order g c = (at g c).in_order

pub returns-clause-alone : goal.returns-clause-alone
returns-clause-alone g c = alone c.args.board.now c.args.rounds c.args.worker.now c.loop-round.worker c.requires.ready (at g c)
