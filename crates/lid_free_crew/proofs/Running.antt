-- What a worker does that shares no station: what the interleaving machine does.
use Rattle.std.proofs.Common.{◌≡◌, ◌≢◌, ℕ, zero, suc, ◌+◌, ◌<◌, ◌==◌, Bool, true, false, List, [], ◌∷◌, length, set, take, refl, sym, ◌∙◌, ap, subst, arith, length-set}
use Rattle.std.specs.Prelude.{Some, slice_get, if◌then◌else◌}
use Rattle.std.proofs.lemmas.Option.{same_Some}
use mathlib.Core.Logic.{dite}
use native.Mathlib.Decide.{ℕ_discrete}
use Rattle.lid_base.specs.declared.runs.Tally.{Tally}
use Rattle.lid_station.specs.Boards.{Ends, fill, drain}
use Rattle.lid_board.specs.Owners.{start_ends}
use Rattle.lid_board.specs.Standing.{AreStreamsOf}
use Rattle.lid_board.specs.declared.board.Board.{Board}
use Rattle.lid_shell_laws.specs.Runs.{place_in}
use Rattle.lid_walk_machine.specs.Plans.{Plan, stations_of, ins_of, outs_of, drainer_of, filler_of, start_of}
use Rattle.lid_walk_machine.specs.Setups.{plan}
use Rattle.lid_shell_laws.specs.Setups.{Setup}
use Rattle.lid_walk_machine.specs.Machine.{Progress, State, next, until_rest, positions, turn, turn_answer, taken_by, put_by, out_count, in_count}
use Rattle.lid_walk_machine.proofs.Moves.{elsewhere}
use Rattle.lid_shell.specs.declared.actor.Actor.{Actor}
use Rattle.lid_shell.specs.declared.turn.TurnEnd.{TurnEnd}
use Rattle.lid_shell.specs.Actors.{IsActor}
use Rattle.lid_shell.specs.Boards.{IsEndWith, ServesBoth}
use Rattle.lid_shell.specs.Steps.{Works}
use Rattle.lid_shell.specs.TurnEnds.{end_at}
use Rattle.lid_walk.proofs.Serving.{drains_by, fills_by, drain_apart, fill_apart, drained_own, filled_own}
use Rattle.lid_walk.proofs.Turning.{as_far}
use Rattle.lid_free_crew.specs.Posts.{resting, AgreesAt, IsEndOf}
use Rattle.lid_free_crew.specs.Tallies.{counted}
use Rattle.lid_free_crew.specs.Turns.{HasMadeTurns}
use Rattle.lid_free_crew.specs.Alone.{TurnsSoFar, turned, round_of, AreAlone}
use Rattle.lid_free_crew.specs.Order.{EndsTurn}
use Rattle.lid_free_crew.specs.Rounds.{IsWorkerRun}
use Rattle.lid_free_crew.proofs.Rounding.{OwnStay, agrees_kept}
use Rattle.lid_base.proofs.Places.{set_here, set_there}

-- a turn leaves the other actors as they were
until_else : (m : Plan) (v fuel : ℕ) (st : State) (w : ℕ) → w ≢ v → until_rest m v fuel st w ≡ st w
unfolding until_rest
until_else m v zero st w other = refl
until_else m v (suc fuel) st w other =
    by_rest ((next m st v v).position == 0) (until_else m v fuel (next m st v) w other)
  where
    by_rest : (b : Bool) → until_rest m v fuel (next m st v) w ≡ next m st v w → (if b then next m st v else until_rest m v fuel (next m st v)) w ≡ st w
    by_rest true later = elsewhere m st v w other
    by_rest false later = later ∙ elsewhere m st v w other

pub turn_else : (m : Plan) (st : State) (v w : ℕ) → w ≢ v → turn m st v w ≡ st w
turn_else m st v w other = until_else m v (positions m v) st w other

-- one turn more of a round
pub round_more : (m : Plan) (numbers : List ℕ) (k v : ℕ) (r : TurnsSoFar) → slice_get numbers k ≡ Some v → round_of m (take (k + 1) numbers) r ≡ turned m v (round_of m (take k numbers) r)
unfolding round_of
round_more m [] k v r at = absurd (cc)
round_more m (u ∷ numbers) zero v r at =
    let z : 0 + 1 ≡ suc 0 = refl in
    let same : u ≡ v = same_Some u v at in
    ap (λ (n : ℕ). turned m n r) same
round_more m (u ∷ numbers) (suc k) v r at =
    let s : suc k + 1 ≡ suc (k + 1) = omega arith in
    ap (λ (n : ℕ). round_of m (take n (u ∷ numbers)) r) s ∙ round_more m numbers k v (turned m u r) at

module _ (m : Setup) (numbers : List ℕ) (st : State) (board : Board) (before now : Ends) (olds : List Actor) (k v : ℕ) (a b : Actor)
    (alone : AreAlone m numbers st board olds before)
    (at_v : slice_get numbers k ≡ Some v) (at_k : slice_get olds k ≡ Some a)
    (stay : (i : ℕ) (d : Actor) → (i ≡ k → ⊥) → slice_get olds i ≡ Some d → OwnStay d before now)
    (others : (e : ℕ) → (IsEndOf a e → ⊥) → now e ≡ before e)
    (gone : HasMadeTurns board 1 before a now b)
    (is_b : IsActor m v (turn (plan m) st v v) b) where
  abbrev new : State
  new = turn (plan m) st v

  was : Works m v (st v) a before (AreStreamsOf (start_ends board))
  was = alone.works k v a at_v at_k

  rests_now : (st v).position ≡ 0
  rests_now = alone.rest k v at_v

  agrees_then : AgreesAt m v board now b
  agrees_then =
      gone.agrees m v
      (subst (λ (q : Progress). Works m v q a before (AreStreamsOf (start_ends board))) (as_far (st v) (resting a) (sym was.actor.at.fired_is) rests_now) was)

  far : resting b ≡ new v
  far = as_far (resting b) (new v) is_b.at.fired_is (sym agrees_then.actor.at.position_is ∙ is_b.at.position_is)

  works_then : Works m v (new v) b now (AreStreamsOf (start_ends board))
  works_then = subst (λ (q : Progress). Works m v q b now (AreStreamsOf (start_ends board))) far agrees_then

  not_v : (i u : ℕ) → (i ≡ k → ⊥) → slice_get numbers i ≡ Some u → u ≢ v
  not_v i u not_k at_u same = not_k (alone.once i k v (subst (λ (n : ℕ). slice_get numbers i ≡ Some n) same at_u) at_v)

  -- an end at which as many tokens passed as v counts, or as another counts, which left it as it was
  end_then : (end owner count more : ℕ) → ((owner ≡ v → ⊥) → IsEndOf a end → ⊥) → ((owner ≡ v → ⊥) → more ≡ count) → (owner ≡ v → IsEndWith now end (λ f. f.passed ≡ more))
      → IsEndWith before end (λ f. f.passed ≡ count) → IsEndWith now end (λ f. f.passed ≡ more)
  end_then end owner count more apart same own (f, at, passed) =
      dite (ℕ_discrete owner v) own (λ other. (f, others end (apart other) ∙ at, passed ∙ sym (same other)))

  -- the two ends of a station
  filled_then : (station : ℕ) → station < stations_of (plan m) → IsEndWith before (fill station) (λ f. f.passed ≡ in_count (plan m) st station) → IsEndWith now (fill station) (λ f. f.passed ≡ in_count (plan m) new station)
  filled_then station h =
      let u = filler_of (plan m) station in
      end_then (fill station) u (in_count (plan m) st station) (in_count (plan m) new station)
      (fill_apart m v a.desk.ins.items a.desk.outs.items was.actor.at.drains was.actor.at.fills station)
      (λ other. ap (λ (q : Progress). start_of (plan m) station + put_by (plan m) u q (place_in (outs_of (plan m) u) station)) (turn_else (plan m) st v u other))
      (filled_own m new now v works_then.agrees station h)

  drained_then : (station : ℕ) → station < stations_of (plan m) → IsEndWith before (drain station) (λ f. f.passed ≡ out_count (plan m) st station) → IsEndWith now (drain station) (λ f. f.passed ≡ out_count (plan m) new station)
  drained_then station h =
      let u = drainer_of (plan m) station in
      end_then (drain station) u (out_count (plan m) st station) (out_count (plan m) new station)
      (drain_apart m v a.desk.ins.items a.desk.outs.items was.actor.at.drains was.actor.at.fills station)
      (λ other. ap (λ (q : Progress). taken_by (plan m) u q (place_in (ins_of (plan m) u) station)) (turn_else (plan m) st v u other))
      (drained_own m new now v works_then.agrees station h)

  both_then : (station : ℕ) → station < stations_of (plan m) → ServesBoth m st before station → ServesBoth m new now station
  both_then station h both = record { filled = filled_then station h both.filled; drained = drained_then station h both.drained }

  works_each : (i u : ℕ) (c : Actor) → slice_get numbers i ≡ Some u → slice_get (set olds k b) i ≡ Some c → Works m u (new u) c now (AreStreamsOf (start_ends board))
  works_each i u c at_u at_c =
      dite (ℕ_discrete i k)
      (λ same.
      let is_v : v ≡ u = same_Some v u (sym at_v ∙ subst (λ (n : ℕ). slice_get numbers n ≡ Some u) same at_u) in
      let is_c : b ≡ c = set_here olds k b c (subst (λ (n : ℕ). slice_get (set olds k b) n ≡ Some c) same at_c) in
      subst (λ (n : ℕ). Works m n (new n) c now (AreStreamsOf (start_ends board))) is_v (subst (λ (d : Actor). Works m v (new v) d now (AreStreamsOf (start_ends board))) is_c works_then))
      (λ not_k.
      let at_old : slice_get olds i ≡ Some c = sym (set_there olds k i b not_k) ∙ at_c in
      let old = alone.works i u c at_u at_old in
      let then_ : Works m u (st u) c now (AreStreamsOf (start_ends board)) = record {
        actor = old.actor;
        agrees = agrees_kept m u (st u) c before now old.actor.at.drains old.actor.at.fills (stay i c not_k at_old) old.agrees;
        streams = old.streams;
      } in
      subst (λ (q : Progress). Works m u q c now (AreStreamsOf (start_ends board))) (sym (turn_else (plan m) st v u (not_v i u not_k at_u))) then_)

  rest_each : (i u : ℕ) → slice_get numbers i ≡ Some u → (new u).position ≡ 0
  rest_each i u at_u =
      dite (ℕ_discrete u v)
      (λ same. ap (λ (n : ℕ). (new n).position) same ∙ ap (λ (q : Progress). q.position) (sym far))
      (λ other. ap (λ (q : Progress). q.position) (turn_else (plan m) st v u other) ∙ alone.rest i u at_u)

  pub alone_then : AreAlone m numbers new board (set olds k b) now
  alone_then = record {
    rules = alone.rules;
    many = length-set olds k b ∙ alone.many;
    once = alone.once;
    works = works_each;
    rest = rest_each;
    serves = λ i u at_u.
        let both = alone.serves i u at_u in
        record {
          ins = λ j station h. both_then station (drains_by (plan m) u j station h).there (both.ins j station h);
          outs = λ j station h. both_then station (fills_by (plan m) u j station h).there (both.outs j station h);
        };
  }

-- a turn of one of the actors goes on with a run
pub runs_then : (m : Setup) (numbers : List ℕ) (r : TurnsSoFar) (board : Board) (before now : Ends) (olds : List Actor) (was is : Tally) (k v : ℕ) (a b : Actor) (end : TurnEnd)
    → IsWorkerRun m numbers r board before olds was → slice_get numbers k ≡ Some v → slice_get olds k ≡ Some a
    → ((i : ℕ) (d : Actor) → (i ≡ k → ⊥) → slice_get olds i ≡ Some d → OwnStay d before now)
    → EndsTurn board end before a was now b is
    → IsWorkerRun m numbers (turned (plan m) v r) board now (set olds k b) is
runs_then m numbers r board before now olds was is k v a b end run at_v at_k stay turn =
    let alone = run.alone in
    let exact = turn.exact m v r.state (alone.rest k v at_v) (alone.works k v a at_v at_k) (alone.serves k v at_v) in
    record {
      alone = alone_then m numbers r.state board before now olds k v a b alone at_v at_k stay turn.others turn.gone exact.1;
      tally_is = turn.counts ∙ ap (λ (e : TurnEnd). counted e was) exact.0 ∙ ap (counted (end_at (turn_answer (plan m) r.state v))) run.tally_is;
    }
