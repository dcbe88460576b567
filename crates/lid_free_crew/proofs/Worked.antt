-- A worker that has made so many rounds.
use Rattle.std.proofs.Common.{◌≡◌, ℕ, suc, ◌+◌, ◌*◌, List, length, refl, sym, ◌∙◌, subst, arith}
use Rattle.std.specs.Prelude.{Some, slice_get}
use Rattle.std.proofs.Math.Nat.{add-mul}
use Rattle.lid_base.specs.declared.runs.Tally.{Tally}
use Rattle.lid_station.specs.Boards.{Ends}
use Rattle.lid_shell.specs.declared.actor.Actor.{Actor}
use Rattle.lid_board.specs.Owners.{IsOf}
use Rattle.lid_board.specs.declared.board.Board.{Board}
use Rattle.lid_walk_machine.specs.Setups.{plan}
use Rattle.lid_shell_laws.specs.Setups.{Setup}
use Rattle.lid_walk_machine.specs.Machine.{State}
use Rattle.lid_free_crew.specs.Posts.{known, IsAtWork, IsReady, StaysAt}
use Rattle.lid_free_crew.specs.Tallies.{AddsUp, IsTallyOf}
use Rattle.lid_free_crew.specs.Nothing.{no_turns}
use Rattle.lid_free_crew.specs.Turns.{HaveGone}
use Rattle.lid_free_crew.specs.Alone.{TurnsSoFar, run_from, round_of, rounds_of, WorksAlone, MakesRounds}
use Rattle.lid_free_crew.specs.Order.{stage_of, TurnsMade, WorksInOrder}
use Rattle.lid_free_crew.specs.Rounds.{Made, IsWorkerRun, GoesRound}
use Rattle.lid_free_crew.specs.declared.worker.Worker.{Worker}
use Rattle.lid_free_crew.proofs.Rounding.{none_made, made_as, done_each, alike}
use Rattle.lid_free_crew.proofs.Circling.{still_at_work}
use Rattle.lid_free_crew.proofs.Ordering.{no_rounds_made, one_round_made}

-- what a worker has made since its start
pub record IsAt (board : Board) (rounds : ℕ) (old new : Worker) : Type 0 where
  pub number : new.number ≡ old.number
  pub of : IsOf new.hand board
  pub made : Made board (λ _. rounds) (rounds * length old.actors.items) (known old.hand) old.actors.items old.tally (known new.hand) new.actors.items new.tally
  pub runs :
      (m : Setup) (numbers : List ℕ) (r : TurnsSoFar)
      → IsWorkerRun m numbers r board (known old.hand) old.actors.items old.tally
      → IsWorkerRun m numbers (rounds_of (plan m) numbers rounds r) board (known new.hand) new.actors.items new.tally
  pub in_order : WorksInOrder board rounds old new

no_rounds : (board : Board) (w : Worker) (m : Setup) (numbers : List ℕ) (r : TurnsSoFar)
    → IsWorkerRun m numbers r board (known w.hand) w.actors.items w.tally → IsWorkerRun m numbers (rounds_of (plan m) numbers 0 r) board (known w.hand) w.actors.items w.tally
unfolding rounds_of
no_rounds board w m numbers r run = run

fresh_adds : (t : Tally) → t ≡ no_turns → AddsUp t
fresh_adds t none = subst AddsUp (sym none) refl

pub not_yet : (board : Board) (w : Worker) → IsReady board w → IsAt board 0 w w
not_yet board w ready = record {
  number = refl;
  of = ready.of;
  made =
      made_as board (λ _. 0) (λ _. 0) 0 (0 * length w.actors.items) (known w.hand) w.actors.items w.tally (known w.hand) w.actors.items w.tally (λ i within. refl) (omega arith)
      (none_made board (known w.hand) w.actors.items w.tally (fresh_adds w.tally ready.none));
  runs = no_rounds board w;
  in_order = no_rounds_made board (stage_of w);
}

one_round_run : (board : Board) (rounds : ℕ) (new then_ : Worker) (m : Setup) (numbers : List ℕ) (r : TurnsSoFar)
    → IsWorkerRun m numbers (round_of (plan m) numbers (rounds_of (plan m) numbers rounds r)) board (known then_.hand) then_.actors.items then_.tally
    → IsWorkerRun m numbers (rounds_of (plan m) numbers (rounds + 1) r) board (known then_.hand) then_.actors.items then_.tally
unfolding rounds_of
one_round_run board rounds new then_ m numbers r run =
    let s : suc rounds ≡ rounds + 1 = omega arith in
    subst (λ (n : ℕ). IsWorkerRun m numbers (rounds_of (plan m) numbers n r) board (known then_.hand) then_.actors.items then_.tally) s run

pub one_round : (board : Board) (rounds : ℕ) (old new then_ : Worker) → IsAt board rounds old new
    → then_.number ≡ new.number → IsOf then_.hand board
    → GoesRound board (known new.hand) new.actors.items new.tally (known then_.hand) then_.actors.items then_.tally
    → TurnsMade board (length new.actors.items) (stage_of new) (stage_of then_)
    → IsAt board (rounds + 1) old then_
one_round board rounds old new then_ at number of round turns = record {
  number = number ∙ at.number;
  of = of;
  made =
      let many = at.made.many in
      let parts = add-mul rounds 1 (length old.actors.items) in
      made_as board (λ _. rounds + 1) (λ _. rounds + 1) (rounds * length old.actors.items + length new.actors.items) ((rounds + 1) * length old.actors.items)
      (known old.hand) old.actors.items old.tally (known then_.hand) then_.actors.items then_.tally (λ i within. refl) (omega (arith, many, parts))
      (round.made (λ _. rounds) (rounds * length old.actors.items) (known old.hand) old.actors.items old.tally at.made);
  runs = λ m numbers r run. one_round_run board rounds new then_ m numbers r (round.runs m numbers (rounds_of (plan m) numbers rounds r) (at.runs m numbers r run));
  in_order = one_round_made board rounds (stage_of old) (stage_of new) (stage_of then_) at.in_order turns;
}

-- a round keeps the actors
pub round_long : (board : Board) (before now : Ends) (olds news : List Actor) (was is : Tally) → AddsUp was → GoesRound board before olds was now news is → length news ≡ length olds
round_long board before now olds news was is adds round = (round.made (λ _. 0) 0 before olds was (none_made board before olds was adds)).many

-- its actors are at work as before
pub at_work_still : (board : Board) (rounds : ℕ) (old new : Worker) → IsReady board old → IsAt board rounds old new
    → (i : ℕ) (a : Actor) → slice_get new.actors.items i ≡ Some a → IsAtWork board (known new.hand) a
at_work_still board rounds old new ready at =
    still_at_work board (λ _. rounds) _ (known old.hand) old.actors.items old.tally (known new.hand) new.actors.items new.tally at.made ready.agree

-- the rounds that were made are all
pub all_rounds : (board : Board) (rounds all : ℕ) (old new : Worker) → IsAt board rounds old new → rounds ≡ all → IsAt board all old new
all_rounds board rounds all old new at same = subst (λ (n : ℕ). IsAt board n old new) same at

-- what that says in the end
module _ (board : Board) (rounds : ℕ) (old new : Worker) (ready : IsReady board old) (at : IsAt board rounds old new) where
  pub stays : StaysAt board old new
  stays = record { number = at.number; of = at.of; ends = at.made.keeps; others = at.made.others }

  pub gone : HaveGone board rounds old new
  gone = record { many = at.made.many; each = at.made.each }

  pub tallied : IsTallyOf board rounds old new
  tallied =
      let so = alike old.tally _ ready.none in
      let each = done_each rounds new.actors.items in
      record {
        turns_are = omega (arith, so.turns, at.made.turns_are);
        fired_are = omega (arith, so.fired, at.made.fired_are);
        voids_are = omega (arith, so.voids, at.made.voids_are);
        stops_are = omega (arith, so.stops, at.made.stops_are);
        adds_up = at.made.adds_up;
        dones_most = omega (arith, so.dones, each, at.made.dones_most);
      }

  pub alone : (m : Setup) (numbers : List ℕ) (st : State) → WorksAlone m numbers st board old → MakesRounds m numbers st board rounds new
  alone m numbers st own =
      let run = at.runs m numbers (run_from st) (record { alone = own; tally_is = ready.none }) in
      (run.alone, run.tally_is)
