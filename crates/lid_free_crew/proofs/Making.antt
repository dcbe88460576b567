-- What one turn of an actor does to it and to what is counted.
use Rattle.std.proofs.Common.{◌≡◌, ◌↔◌, ℕ, ◌++◌, length, length-append, ◌+◌, ◌*◌, ◌<◌, ◌≤◌, Bool, cond, List, refl, sym, ◌∙◌, ap, subst, arith, eq-eqb, ne_eqb}
use Rattle.std.specs.Prelude.{Option, Some, slice_get}
use Rattle.std.specs.List.{sum_by}
use Rattle.std.proofs.lemmas.List.{nil_from_length}
use Rattle.std.proofs.lemmas.Option.{same_Some}
use Rattle.lid_base.specs.declared.runs.Tally.{Tally}
use Rattle.lid_station.specs.Boards.{Facts, Ends, fill, drain}
use Rattle.lid_board.specs.Owners.{start_ends}
use Rattle.lid_board.specs.Standing.{AreStreamsOf}
use Rattle.lid_board.specs.declared.board.Board.{Board}
use Rattle.lid_walk_machine.specs.Plans.{ins_of, outs_of, cap}
use Rattle.lid_walk_machine.specs.Setups.{plan}
use Rattle.lid_shell_laws.specs.Setups.{Setup}
use Rattle.lid_walk_machine.specs.Machine.{State, turn, turn_answer}
use Rattle.lid_shell.specs.declared.actor.Actor.{Actor}
use Rattle.lid_shell.specs.declared.turn.TurnEnd.{TurnEnd}
use Rattle.lid_shell.specs.declared.turn.TurnEnd.TheVariants.{Fired, Void, Stop, Done}
use Rattle.lid_shell.specs.Actors.{IsActor}
use Rattle.lid_shell.specs.Boards.{Agrees, ServesAll}
use Rattle.lid_shell.specs.Steps.{Works, Moves, NotesOwn, missed_end}
use Rattle.lid_shell.specs.Turns.{answer_at, fired_at, EndsSo, Turned}
use Rattle.lid_shell.specs.TurnEnds.{end_at}
use Rattle.lid_walk.proofs.Serving.{drains_by, fills_by}
use Rattle.lid_walk.proofs.Turning.{resting}
use Rattle.lid_free_crew.specs.Posts.{stations_of, AgreesAt, IsAtWork}
use Rattle.lid_free_crew.specs.Tallies.{sum_below, counted, fired_one, void_one, stop_one, done_one, misses_at, misses_of, void_misses, stop_misses}
use Rattle.lid_free_crew.specs.Turns.{HasMadeTurns}
use Rattle.lid_free_crew.specs.Order.{at_cap, MakesTurn, HasMadeSteps}
use Rattle.lid_free_crew.proofs.Sums.{sum_none, sum_one, below_none, below_one}
use Rattle.lid_free_crew.proofs.Misses.{missed_one, missed_here, missed_else, AreCounted, sums_more, belows_more}

fired_more : (end : TurnEnd) (n : ℕ) → fired_at end n ≡ n + fired_one end
fired_more Fired n = refl
fired_more (Void station told) n = omega arith
fired_more (Stop station told) n = omega arith
fired_more Done n = omega arith

pub one_of_four : (end : TurnEnd) → fired_one end + void_one end + stop_one end + done_one end ≡ 1
one_of_four Fired = refl
one_of_four (Void station told) = refl
one_of_four (Stop station told) = refl
one_of_four Done = refl

-- an end of a station is drained or filled, never both
drain_not_fill : (s t : ℕ) → drain s ≡ fill t → ⊥
drain_not_fill s t e = omega (arith, e)

drain_same : (s t : ℕ) → drain s ≡ drain t → s ≡ t
drain_same s t e = omega (arith, e)

fill_same : (s t : ℕ) → fill s ≡ fill t → s ≡ t
fill_same s t e = omega (arith, e)

-- which ends a turn that ended so missed at, of actor v's stations
module _ (m : Setup) (v fired : ℕ) where
  abbrev missed : TurnEnd → Option ℕ
  missed end = missed_end (answer_at end)

  -- no two places of an actor have the same station
  drained_once : (i j s t : ℕ) → slice_get (ins_of (plan m) v) i ≡ Some s → slice_get (ins_of (plan m) v) j ≡ Some t → (j ≡ i → ⊥) → drain t ≡ drain s → ⊥
  drained_once i j s t at_i at_j other e =
      let one = drains_by (plan m) v i s at_i in
      let two = drains_by (plan m) v j s (subst (λ (n : ℕ). slice_get (ins_of (plan m) v) j ≡ Some n) (drain_same t s e) at_j) in
      other (sym two.place ∙ one.place)

  filled_once : (i j s t : ℕ) → slice_get (outs_of (plan m) v) i ≡ Some s → slice_get (outs_of (plan m) v) j ≡ Some t → (j ≡ i → ⊥) → fill t ≡ fill s → ⊥
  filled_once i j s t at_i at_j other e =
      let one = fills_by (plan m) v i s at_i in
      let two = fills_by (plan m) v j s (subst (λ (n : ℕ). slice_get (outs_of (plan m) v) j ≡ Some n) (fill_same t s e) at_j) in
      other (sym two.place ∙ one.place)

  drains_one : (end : TurnEnd) → EndsSo m v fired end → sum_by (λ s. missed_one (missed end) (drain s)) (ins_of (plan m) v) ≡ void_one end
  drains_one Fired so = sum_none (λ s. 0) (ins_of (plan m) v) (λ i s at. refl)
  drains_one (Void station told) (i, at, word) =
      sum_one (λ s. missed_one (Some (drain station)) (drain s)) (ins_of (plan m) v) i station at (missed_here (drain station) (drain station) refl)
      (λ j t at_j other. missed_else (drain station) (drain t) (drained_once i j station t at at_j other))
  drains_one (Stop station told) so = sum_none (λ s. missed_one (Some (fill station)) (drain s)) (ins_of (plan m) v) (λ i s at. missed_else (fill station) (drain s) (drain_not_fill s station))
  drains_one Done so = sum_none (λ s. 0) (ins_of (plan m) v) (λ i s at. refl)

  fills_one : (end : TurnEnd) → EndsSo m v fired end → sum_by (λ s. missed_one (missed end) (fill s)) (outs_of (plan m) v) ≡ stop_one end
  fills_one Fired so = sum_none (λ s. 0) (outs_of (plan m) v) (λ i s at. refl)
  fills_one (Void station told) so = sum_none (λ s. missed_one (Some (drain station)) (fill s)) (outs_of (plan m) v) (λ i s at. missed_else (drain station) (fill s) (λ e. drain_not_fill station s (sym e)))
  fills_one (Stop station told) (j, at, word) =
      sum_one (λ s. missed_one (Some (fill station)) (fill s)) (outs_of (plan m) v) j station at (missed_here (fill station) (fill station) refl)
      (λ i t at_i other. missed_else (fill station) (fill t) (filled_once j i station t at at_i other))
  fills_one Done so = sum_none (λ s. 0) (outs_of (plan m) v) (λ i s at. refl)

  module _ (before : Ends) (agrees : Agrees m v (resting fired) before) where
    missed_there : (end : TurnEnd) → EndsSo m v fired end → (e : ℕ) → missed end ≡ Some e → (f : Facts) × (before e ≡ Some f)
    missed_there Fired so e is = absurd (cc)
    missed_there (Void station told) (i, at, word) e is =
        let served = agrees.drains i station at in
        let same : drain station ≡ e = cc in
        (served.0, ap before (sym same) ∙ served.1)
    missed_there (Stop station told) (j, at, word) e is =
        let served = agrees.fills j station at in
        let same : fill station ≡ e = cc in
        (served.0, ap before (sym same) ∙ served.1)
    missed_there Done so e is = absurd (cc)

    module _ (stations : ℕ) (inside : (e : ℕ) (f : Facts) → before e ≡ Some f → e < 2 * stations) where
      voids_one : (end : TurnEnd) → EndsSo m v fired end → sum_below (λ s. missed_one (missed end) (drain s)) stations ≡ void_one end
      voids_one Fired so = below_none (λ s. 0) stations (λ s low. refl)
      voids_one (Void station told) (i, at, word) =
          let served = agrees.drains i station at in
          let within = inside (drain station) served.0 served.1 in
          below_one (λ s. missed_one (Some (drain station)) (drain s)) stations station (omega (arith, within)) (missed_here (drain station) (drain station) refl)
          (λ t other. missed_else (drain station) (drain t) (λ e. other (drain_same t station e)))
      voids_one (Stop station told) so = below_none (λ s. missed_one (Some (fill station)) (drain s)) stations (λ s low. missed_else (fill station) (drain s) (drain_not_fill s station))
      voids_one Done so = below_none (λ s. 0) stations (λ s low. refl)

      stops_one : (end : TurnEnd) → EndsSo m v fired end → sum_below (λ s. missed_one (missed end) (fill s)) stations ≡ stop_one end
      stops_one Fired so = below_none (λ s. 0) stations (λ s low. refl)
      stops_one (Void station told) so = below_none (λ s. missed_one (Some (drain station)) (fill s)) stations (λ s low. missed_else (drain station) (fill s) (λ e. drain_not_fill station s (sym e)))
      stops_one (Stop station told) (j, at, word) =
          let served = agrees.fills j station at in
          let within = inside (fill station) served.0 served.1 in
          below_one (λ s. missed_one (Some (fill station)) (fill s)) stations station (omega (arith, within)) (missed_here (fill station) (fill station) refl)
          (λ t other. missed_else (fill station) (fill t) (λ e. other (fill_same t station e)))
      stops_one Done so = below_none (λ s. 0) stations (λ s low. refl)

not_at_cap : (a : Actor) → a.desk.fired < a.desk.cap → at_cap a ≡ 0
not_at_cap a low = ap (λ (b : Bool). cond b 1 0) (ne_eqb a.desk.fired a.desk.cap (λ e. omega (arith, e, low)))

pub is_at_cap : (a : Actor) → a.desk.fired ≡ a.desk.cap → at_cap a ≡ 1
is_at_cap a is = ap (λ (b : Bool). cond b 1 0) (eq-eqb a.desk.fired a.desk.cap is)

-- a turn of an actor, by what its contract says
module _ (board : Board) (before now : Ends) (then_stands : (ℕ → List ℕ) → Type 0) (a b : Actor) (end : TurnEnd) (was is : Tally)
    (counts : AreCounted before)
    (inside : (e : ℕ) (f : Facts) → before e ≡ Some f → e < 2 * stations_of board)
    (turns : (m : Setup) (v fired : ℕ) → Works m v (resting fired) a before (AreStreamsOf (start_ends board)) → Turned m v fired end b now then_stands)
    (moves : Moves a.desk.ins.items a.desk.outs.items (missed_end (answer_at end)) before now) where
  module _ (m : Setup) (v fired : ℕ) (w : Works m v (resting fired) a before (AreStreamsOf (start_ends board))) where
    t : Turned m v fired end b now then_stands
    t = turns m v fired w

    drains_is : b.desk.ins.items ≡ a.desk.ins.items
    drains_is = t.works.actor.at.drains ∙ sym w.actor.at.drains

    fills_is : b.desk.outs.items ≡ a.desk.outs.items
    fills_is = t.works.actor.at.fills ∙ sym w.actor.at.fills

    capped_is : b.desk.cap ≡ a.desk.cap
    capped_is = t.works.actor.at.capped ∙ sym w.actor.at.capped

    fires_is : b.desk.fired ≡ a.desk.fired + fired_one end
    fires_is =
        let one : b.desk.fired ≡ fired_at end fired = t.works.actor.at.fired_is in
        let two : a.desk.fired ≡ fired = w.actor.at.fired_is in
        omega (arith, one, two, fired_more end fired)

    done_is : (e : TurnEnd) → end ≡ e → done_one e ≤ at_cap b
    done_is Done e =
        let at : fired ≡ cap (plan m) v = t.done.0 e in
        let now_fired : b.desk.fired ≡ fired_at end fired = t.works.actor.at.fired_is in
        let then_fired : fired_at end fired ≡ fired = ap (λ (x : TurnEnd). fired_at x fired) e in
        let capped : b.desk.cap ≡ cap (plan m) v = t.works.actor.at.capped in
        let one = is_at_cap b (now_fired ∙ then_fired ∙ at ∙ sym capped) in
        omega (arith, one)
    done_is _ e = omega arith

    ends_done : (end ≡ Done) ↔ (a.desk.fired ≡ a.desk.cap)
    ends_done =
        let fired_is : a.desk.fired ≡ fired = w.actor.at.fired_is in
        let capped : a.desk.cap ≡ cap (plan m) v = w.actor.at.capped in (
          (λ e. fired_is ∙ t.done.0 e ∙ sym capped),
          (λ at. t.done.1 (sym fired_is ∙ at ∙ capped)),
        )

    missed_known : (e : ℕ) → missed_end (answer_at end) ≡ Some e → (f : Facts) × (before e ≡ Some f)
    missed_known = missed_there m v fired before w.agrees end t.ends_so

    misses_is : misses_of now b ≡ misses_of before a + void_one end + stop_one end
    misses_is =
        let drains = sums_more a.desk.ins.items a.desk.outs.items (missed_end (answer_at end)) before now counts moves missed_known drain (ins_of (plan m) v) in
        let fills = sums_more a.desk.ins.items a.desk.outs.items (missed_end (answer_at end)) before now counts moves missed_known fill (outs_of (plan m) v) in
        let void = drains_one m v fired end t.ends_so in
        let stop = fills_one m v fired end t.ends_so in
        let new_ins = ap (sum_by (λ s. misses_at now (drain s))) t.works.actor.at.drains in
        let new_outs = ap (sum_by (λ s. misses_at now (fill s))) t.works.actor.at.fills in
        let old_ins = ap (sum_by (λ s. misses_at before (drain s))) w.actor.at.drains in
        let old_outs = ap (sum_by (λ s. misses_at before (fill s))) w.actor.at.fills in
        omega (arith, drains, fills, void, stop, new_ins, new_outs, old_ins, old_outs)

    voids_is : void_misses now (stations_of board) ≡ void_misses before (stations_of board) + void_one end
    voids_is =
        belows_more a.desk.ins.items a.desk.outs.items (missed_end (answer_at end)) before now counts moves missed_known drain (stations_of board)
        ∙ ap (λ (n : ℕ). void_misses before (stations_of board) + n) (voids_one m v fired before w.agrees (stations_of board) inside end t.ends_so)

    stops_is : stop_misses now (stations_of board) ≡ stop_misses before (stations_of board) + stop_one end
    stops_is =
        belows_more a.desk.ins.items a.desk.outs.items (missed_end (answer_at end)) before now counts moves missed_known fill (stations_of board)
        ∙ ap (λ (n : ℕ). stop_misses before (stations_of board) + n) (stops_one m v fired before w.agrees (stations_of board) inside end t.ends_so)

  agrees_is : (m : Setup) (v : ℕ) → AgreesAt m v board before a → AgreesAt m v board now b
  agrees_is m v w =
      let t = turns m v a.desk.fired w in
      let far : fired_at end a.desk.fired ≡ b.desk.fired = sym t.works.actor.at.fired_is in
      record {
        actor = subst (λ (n : ℕ). IsActor m v (resting n) b) far t.works.actor;
        agrees = subst (λ (n : ℕ). Agrees m v (resting n) now) far t.works.agrees;
        streams = w.streams;
      }

  gone_is : IsAtWork board before a → HasMadeTurns board 1 before a now b
  gone_is (m, v, fired, w) =
      let four = one_of_four end in
      let fires = fires_is m v fired w in
      let misses = misses_is m v fired w in
      record {
        drains = drains_is m v fired w;
        fills = fills_is m v fired w;
        capped = capped_is m v fired w;
        grows = omega (arith, fires);
        often = omega (arith, four, fires);
        agrees = agrees_is;
        below = λ low. let late = done_is m v fired w end refl in omega (arith, four, fires, misses, late, not_at_cap b low);
        most = omega (arith, four, fires, misses);
      }

  pub makes_turn : IsAtWork board before a → is ≡ counted end was
      → ((m : Setup) (v : ℕ) (st : State) → (st v).position ≡ 0 → Works m v (st v) a before (AreStreamsOf (start_ends board)) → ServesAll m st v before → (end ≡ end_at (turn_answer (plan m) st v)) × IsActor m v (turn (plan m) st v v) b)
      → MakesTurn board before a was now b is
  makes_turn (m, v, fired, w) counted_is exactly = (
    end,
    record {
      gone = gone_is (m, v, fired, w);
      others = moves.others;
      keeps = record {
        none = moves.none;
        some = λ e f served. let (g, now_served, stays) = moves.some e f served in (g, now_served, record { cap = stays.cap; start = stays.start });
      };
      counts = counted_is;
      fires = fires_is m v fired w;
      voids = voids_is m v fired w;
      stops = stops_is m v fired w;
      done_late = done_is m v fired w end refl;
      done = ends_done m v fired w;
      exact = exactly;
    },
  )

-- the steps that a turn noted, where those that were made at the cap are none
pub steps_made : (a : Actor) (old new : List ℕ) → NotesOwn a (Some old) (Some new) → (a.desk.fired ≡ a.desk.cap → new ≡ old) → HasMadeSteps a old new
steps_made a old new notes still =
    let is : new ≡ notes.made ++ old = same_Some new (notes.made ++ old) notes.notes.are in
    record {
      made = notes.made;
      are = is;
      own = notes.notes.own;
      some = notes.some;
      none = λ at_cap.
          let long = ap length (sym is ∙ still at_cap) in
          let parts = length-append notes.made old in
          nil_from_length notes.made (omega arith);
    }
