-- Actors at their caps: their turns leave all as it was.
use Rattle.std.proofs.Common.{◌≡◌, ℕ, suc, zero, ◌+◌, ◌≤◌, ◌==◌, Bool, true, List, [], length, set, refl, sym, ◌∙◌, ap, subst, arith, eq-eqb}
use Rattle.std.specs.Prelude.{Some, None, slice_get, if◌then◌else◌}
use Rattle.std.proofs.lemmas.List.{set-get_or}
use Rattle.std.proofs.lemmas.Option.{slice_get_within, get_or_from_slice_get}
use Rattle.lid_base.specs.declared.runs.Answer.TheVariants as answer
use Rattle.lid_base.specs.declared.runs.Tally.{Tally}
use Rattle.lid_station.specs.Boards.{Ends}
use Rattle.lid_board.specs.Owners.{start_ends}
use Rattle.lid_board.specs.Standing.{AreStreamsOf}
use Rattle.lid_board.specs.declared.board.Board.{Board}
use Rattle.lid_walk_machine.specs.Plans.{Plan, cap}
use Rattle.lid_walk_machine.specs.Setups.{plan}
use Rattle.lid_walk_machine.specs.Machine.{Progress, State, finds, after_as, next, until_rest, last_answer, turn, turn_answer}
use Rattle.lid_shell.specs.declared.actor.Actor.{Actor}
use Rattle.lid_shell.specs.declared.turn.TurnEnd.TheVariants.{Done}
use Rattle.lid_shell.specs.Actors.{IsActor}
use Rattle.lid_shell.specs.Steps.{Works}
use Rattle.lid_shell.specs.TurnEnds.{end_at}
use Rattle.lid_free_crew.specs.Posts.{AgreesAt, IsAtWork, AreApart}
use Rattle.lid_free_crew.specs.Tallies.{AddsUp, counted, counted_done}
use Rattle.lid_free_crew.specs.Order.{EndsTurn, HasMadeSteps, Stage, TurnsMade}
use Rattle.lid_free_crew.specs.Rounds.{AreDone, GoesRound}
use Rattle.lid_free_crew.proofs.Making.{is_at_cap}
use Rattle.lid_free_crew.proofs.Rounding.{none_made}
use Rattle.lid_free_crew.proofs.Ordering.{no_turns_made, one_turn_made}
use Rattle.lid_free_crew.proofs.Circling.{IsPartway, none_partway, one_further}
use Rattle.lid_base.proofs.Places.{item_at}

-- the machine at the cap of an actor at rest
module _ (m : Plan) (st : State) (v : ℕ) (at : (st v).fired ≡ cap m v) (rests : (st v).position ≡ 0) where
  full : ((st v).fired == cap m v) ≡ true
  full = eq-eqb (st v).fired (cap m v) at

  stays : next m st v v ≡ st v
  stays =
      ap (λ (b : Bool). if b then after_as m v (st v) (finds m st v) else st v) (eq-eqb v v refl)
      ∙ after_is (finds m st v)
    where
      after_is : (found : Bool) → after_as m v (st v) found ≡ st v
      after_is found = rw full refl

  at_rest : ((next m st v v).position == 0) ≡ true
  at_rest = eq-eqb (next m st v v).position 0 (ap (λ (q : Progress). q.position) stays ∙ rests)

  pub turn_stays : turn m st v v ≡ st v
  unfolding until_rest
  turn_stays = rw at_rest stays

  pub turn_is_done : turn_answer m st v ≡ answer.Done
  unfolding last_answer
  turn_is_done = rw at_rest (rw full refl)

-- a turn at the cap
module _ (board : Board) (ends : Ends) (a : Actor) (was : Tally) (at : a.desk.fired ≡ a.desk.cap) where
  pub idle_turn : EndsTurn board Done ends a was ends a (counted Done was)
  idle_turn = record {
    gone = record {
      drains = refl;
      fills = refl;
      capped = refl;
      grows = omega arith;
      often = omega arith;
      agrees = λ m v w. w;
      below = λ low. absurd (omega (arith, low, at));
      most = omega arith;
    };
    others = λ e no_end. refl;
    keeps = record { none = λ e none. none; some = λ e f served. (f, served, record { cap = refl; start = refl }) };
    counts = refl;
    fires = omega arith;
    voids = omega arith;
    stops = omega arith;
    done_late = let one = is_at_cap a at in omega arith;
    done = ((λ _. at), (λ _. refl));
    exact = λ m v st rests w serves.
        let full : (st v).fired ≡ cap (plan m) v = sym w.actor.at.fired_is ∙ at ∙ w.actor.at.capped in (
          sym (ap end_at (turn_is_done (plan m) st v full rests)),
          subst (λ (q : Progress). IsActor m v q a) (sym (turn_stays (plan m) st v full rests)) w.actor,
        );
  }

  pub idle_steps : (steps : List ℕ) → HasMadeSteps a steps steps
  idle_steps steps = record {
    made = [];
    are = refl;
    own = λ i end none. absurd (let e : None ≡ Some end = none in cc);
    some = λ below. absurd (below at);
    none = λ _. refl;
  }

-- tallies that count the same are one
same_tally : (s t : Tally) → s.turns ≡ t.turns → s.fired ≡ t.fired → s.voids ≡ t.voids → s.stops ≡ t.stops → s.dones ≡ t.dones → s ≡ t
same_tally s t turns fired voids stops dones =
    ap (λ (n : ℕ). let r : Tally = record { turns = n; fired = s.fired; voids = s.voids; stops = s.stops; dones = s.dones } in r) turns
    ∙ ap (λ (n : ℕ). let r : Tally = record { turns = t.turns; fired = n; voids = s.voids; stops = s.stops; dones = s.dones } in r) fired
    ∙ ap (λ (n : ℕ). let r : Tally = record { turns = t.turns; fired = t.fired; voids = n; stops = s.stops; dones = s.dones } in r) voids
    ∙ ap (λ (n : ℕ). let r : Tally = record { turns = t.turns; fired = t.fired; voids = t.voids; stops = n; dones = s.dones } in r) stops
    ∙ ap (λ (n : ℕ). let r : Tally = record { turns = t.turns; fired = t.fired; voids = t.voids; stops = t.stops; dones = n } in r) dones

none_counted : (t : Tally) → t ≡ counted_done 0 t
none_counted t = same_tally t (counted_done 0 t) (omega arith) refl refl refl (omega arith)

one_counted : (k : ℕ) (t : Tally) → counted Done (counted_done k t) ≡ counted_done (k + 1) t
one_counted k t = same_tally (counted Done (counted_done k t)) (counted_done (k + 1) t) (omega arith) (omega arith) (omega arith) (omega arith) (omega arith)

set_same : (actors : List Actor) (k : ℕ) (a : Actor) → slice_get actors k ≡ Some a → set actors k a ≡ actors
set_same actors k a here = ap (set actors k) (sym (get_or_from_slice_get actors k a a here)) ∙ set-get_or actors k a

-- the turns of the first actors, which are at their caps
module _ (board : Board) (ends : Ends) (actors : List Actor) (was : Tally) where
  module _ (adds : AddsUp was) (apart : AreApart actors) where
    pub done_partway : (k : ℕ) → k ≤ length actors → AreDone k actors → IsPartway board k ends actors was ends actors (counted_done k was)
    done_partway zero within done = subst (λ (t : Tally). IsPartway board 0 ends actors was ends actors t) (none_counted was) (none_partway board ends actors was)
    done_partway (suc k) within done =
        let (a, here) = item_at actors k (omega (arith, within)) in
        let at : a.desk.fired ≡ a.desk.cap = done k a (omega arith) here in
        let before = done_partway k (omega (arith, within)) (λ i b low there. done i b (omega (arith, low)) there) in
        let further = one_further board k ends actors was ends actors (counted_done k was) ends (counted Done (counted_done k was)) a a adds apart before here (Done, idle_turn board ends a (counted_done k was) at) in
        let more : k + 1 ≡ suc k = omega arith in
        subst (λ (n : ℕ). IsPartway board n ends actors was ends actors (counted_done n was)) more
        (subst (λ (t : Tally). IsPartway board (k + 1) ends actors was ends actors t) (one_counted k was)
        (subst (λ (l : List Actor). IsPartway board (k + 1) ends actors was ends l (counted Done (counted_done k was))) (set_same actors k a here) further))

  module _ (steps : List ℕ) where
    abbrev at_tally : Tally → Stage
    at_tally t = record { ends = ends; steps = steps; actors = actors; tally = t }

    pub done_in_order : (k : ℕ) → k ≤ length actors → AreDone k actors → TurnsMade board k (at_tally was) (at_tally (counted_done k was))
    done_in_order zero within done = subst (λ (t : Tally). TurnsMade board 0 (at_tally was) (at_tally t)) (none_counted was) (no_turns_made board (at_tally was))
    done_in_order (suc k) within done =
        let (a, here) = item_at actors k (omega (arith, within)) in
        let at : a.desk.fired ≡ a.desk.cap = done k a (omega arith) here in
        let before = done_in_order k (omega (arith, within)) (λ i b low there. done i b (omega (arith, low)) there) in
        let further = one_turn_made board k (at_tally was) (at_tally (counted_done k was)) (at_tally (counted Done (counted_done k was))) before
        (record {
          old = a;
          new = a;
          there = here;
          turn = (Done, idle_turn board ends a (counted_done k was) at);
          steps = idle_steps board ends a (counted_done k was) at steps;
          others = sym (set_same actors k a here);
        }) in
        let more : k + 1 ≡ suc k = omega arith in
        subst (λ (n : ℕ). TurnsMade board n (at_tally was) (at_tally (counted_done n was))) more
        (subst (λ (t : Tally). TurnsMade board (k + 1) (at_tally was) (at_tally t)) (one_counted k was) further)

-- who is at its cap before a round is there after it
pub done_stays : (board : Board) (before : Ends) (olds : List Actor) (was : Tally) (now : Ends) (news : List Actor) (is : Tally) (k : ℕ)
    → AddsUp was → ((i : ℕ) (a : Actor) → slice_get olds i ≡ Some a → IsAtWork board before a) → GoesRound board before olds was now news is → AreDone k olds → AreDone k news
done_stays board before olds was now news is k adds at_work round done i b low at_b =
    let made = round.made (λ _. 0) 0 before olds was (none_made board before olds was adds) in
    let within = slice_get_within news i b at_b in
    let (a, at_a) = item_at olds i (omega (arith, within, made.many)) in
    let gone = made.each i a b at_a at_b in
    let (m, v, fired, w) = at_work i a at_a in
    let same : fired ≡ a.desk.fired = sym w.actor.at.fired_is in
    let so : AgreesAt m v board before a = subst (λ (n : ℕ). Works m v (record { fired = n; position = 0 }) a before (AreStreamsOf (start_ends board))) same w in
    let then_ = gone.agrees m v so in
    let most : b.desk.fired ≤ cap (plan m) v = then_.actor.far.capped in
    let capped : b.desk.cap ≡ cap (plan m) v = then_.actor.at.capped in
    let at = done i a low at_a in
    omega (arith, most, capped, at, gone.capped, gone.grows)
