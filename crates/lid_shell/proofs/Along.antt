-- An actor within a turn.
use Rattle.std.proofs.Common.{◌≡◌, ℕ, suc, ◌+◌, ◌-◌, ◌<◌, ◌≤◌, inl, inr, Bool, cond, List, length, refl, sym, ◌∙◌, ap, subst, arith, eq-eqb}
use Rattle.std.specs.Prelude.{Option, Some, None}
use Rattle.std.proofs.lemmas.Bool.{ne_eqb, cases_lt}
use Rattle.lid_base.specs.declared.runs.Answer.{Answer}
use Rattle.lid_station.specs.Boards.{Ends, fill, drain}
use Rattle.lid_walk_machine.specs.Plans.{ins_of, outs_of, start_of, cap}
use Rattle.lid_walk_machine.specs.Setups.{plan}
use Rattle.lid_shell_laws.specs.Setups.{Setup}
use Rattle.lid_walk_machine.specs.Machine.{Progress, State, ends_at, after_as, finds, next, answer_of, until_rest, last_answer, turn, turn_answer}
use Rattle.lid_shell.specs.declared.actor.Actor.{Actor}
use Rattle.lid_shell.specs.declared.turn.TurnEnd.{TurnEnd}
use Rattle.lid_shell.specs.declared.turn.TurnEnd.TheVariants as end
use Rattle.lid_shell.specs.Boards.{ServesAll}
use Rattle.lid_shell.specs.Actors.{IsActor}
use Rattle.lid_shell.specs.Steps.{Works, MakesStep, IsExact, Moves, MissesLate, missed_end, misses_after}
use Rattle.lid_shell.specs.Turns.{answer_at, EndsSo, Turned}
use Rattle.lid_shell.specs.TurnEnds.{end_at}
use Rattle.lid_shell.specs.Inside.{ending}
use Rattle.lid_shell.proofs.Told.{passed_in, passed_out}
use Rattle.lid_shell.proofs.Changed.{moves_not}
use Rattle.lid_shell.proofs.Stepped.{exactly}
use Rattle.lid_shell.proofs.Served.{serves_on}
use Rattle.lid_shell.proofs.Ended.{HasEnded, IsEarly, ended, GoesOn, going_on, says_same, misses_none}

-- an actor at rest that has fired so often
abbrev pub resting : ℕ → Progress
resting fired = record { fired = fired; position = 0 }

-- an actor that has fired so often, within a turn
abbrev pub within : ℕ → Actor → Progress
within fired a = record { fired = fired; position = a.desk.position }

-- the state of the machine within a turn of an actor that began in a state, and what is left of the turn
pub record Follows (m : Setup) (v : ℕ) (st : State) (a : Actor) (ends : Ends) (stands : (ℕ → List ℕ) → Type 0) : Type 0 where
  pub now : State
  pub fuel : ℕ
  pub works : Works m v (now v) a ends stands
  pub serves : ServesAll m now v ends
  pub turns : turn (plan m) st v ≡ until_rest (plan m) v (suc fuel) now
  pub tells : turn_answer (plan m) st v ≡ last_answer (plan m) v (suc fuel) now
  pub enough : ends_at (length (ins_of (plan m) v)) (length (outs_of (plan m) v)) ≤ fuel + (now v).position

-- an actor within a turn
pub record IsAlong (old a : Actor) (ends_old ends : Ends) (stands_old stands : (ℕ → List ℕ) → Type 0) : Type 0 where
  pub works : (m : Setup) (v fired : ℕ) → Works m v (resting fired) old ends_old stands_old → Works m v (within fired a) a ends stands
  pub moves : Moves old.desk.ins.items old.desk.outs.items None ends_old ends
  pub follows : (m : Setup) (v : ℕ) (st : State) → (st v).position ≡ 0 → Works m v (st v) old ends_old stands_old → ServesAll m st v ends_old → Follows m v st a ends stands

-- a position that an actor is known to have
placed : (m : Setup) (v : ℕ) (fired position : ℕ) (a : Actor) (ends : Ends) (stands : (ℕ → List ℕ) → Type 0) → Works m v (record { fired = fired; position = position }) a ends stands → Works m v (within fired a) a ends stands
placed m v fired position a ends stands w = subst (λ (n : ℕ). Works m v (record { fired = fired; position = n }) a ends stands) (sym w.actor.at.position_is) w

-- it begins
pub along_at_first : (a : Actor) (ends : Ends) (stands : (ℕ → List ℕ) → Type 0) → IsAlong a a ends ends stands stands
along_at_first a ends stands =
    record {
      works = λ m v fired w. placed m v fired 0 a ends stands w;
      moves = moves_not a.desk.ins.items a.desk.outs.items ends;
      follows = λ m v st rests w serves. record {
        now = st;
        fuel = ends_at (length (ins_of (plan m) v)) (length (outs_of (plan m) v));
        works = w;
        serves = serves;
        turns = refl;
        tells = refl;
        enough = omega arith;
      };
    }

-- moves one after the other
moves_then : (ins outs : List ℕ) (missed : Option ℕ) (a b c : Ends) → Moves ins outs None a b → Moves ins outs missed b c → Moves ins outs missed a c
moves_then ins outs missed a b c one two =
    record {
      others = λ k apart. two.others k apart ∙ one.others k apart;
      none = λ k none. two.none k (one.none k none);
      some = λ k f was.
          let first = one.some k f was in
          let second = two.some k first.0 first.1 in (
            second.0,
            second.1,
            record {
              cap = second.2.cap ∙ first.2.cap;
              start = second.2.start ∙ first.2.start;
              misses = subst (λ (n : Option ℕ). second.0.misses ≡ misses_after missed k n) first.2.misses second.2.misses;
            },
          );
    }

-- the stations of an actor stay the same
pub same_ins : (m : Setup) (v : ℕ) (p q : Progress) (a b : Actor) (ends new : Ends) (stands stands_new : (ℕ → List ℕ) → Type 0) → Works m v p a ends stands → Works m v q b new stands_new → a.desk.ins.items ≡ b.desk.ins.items
same_ins m v p q a b ends new stands stands_new one two = one.actor.at.drains ∙ sym two.actor.at.drains

pub same_outs : (m : Setup) (v : ℕ) (p q : Progress) (a b : Actor) (ends new : Ends) (stands stands_new : (ℕ → List ℕ) → Type 0) → Works m v p a ends stands → Works m v q b new stands_new → a.desk.outs.items ≡ b.desk.outs.items
same_outs m v p q a b ends new stands stands_new one two = one.actor.at.fills ∙ sym two.actor.at.fills

moves_at : (ins outs xs ys : List ℕ) (missed : Option ℕ) (ends new : Ends) → xs ≡ ins → ys ≡ outs → Moves xs ys missed ends new → Moves ins outs missed ends new
moves_at ins outs xs ys missed ends new same_xs same_ys moves =
    subst (λ (zs : List ℕ). Moves ins zs missed ends new) same_ys (subst (λ (zs : List ℕ). Moves zs ys missed ends new) same_xs moves)

-- other actors are as far as they were
others_stay : (m : Setup) (v : ℕ) (st : State) (w : ℕ) → (w ≡ v → ⊥) → next (plan m) st v w ≡ st w
others_stay m v st w apart = ap (λ (b : Bool). cond b (after_as (plan m) v (st v) (finds (plan m) st v)) (st w)) (ne_eqb w v apart)

on_rest : (m : Setup) (v fuel : ℕ) (st : State) → (next (plan m) st v v).position ≡ 0 → until_rest (plan m) v (suc fuel) st ≡ next (plan m) st v
unfolding until_rest
on_rest m v fuel st rests = ap (λ (b : Bool). cond b (next (plan m) st v) (until_rest (plan m) v fuel (next (plan m) st v))) (eq-eqb _ _ rests)

on_rest_tells : (m : Setup) (v fuel : ℕ) (st : State) → (next (plan m) st v v).position ≡ 0 → last_answer (plan m) v (suc fuel) st ≡ answer_of (plan m) st v
unfolding last_answer
on_rest_tells m v fuel st rests = ap (λ (b : Bool). cond b (answer_of (plan m) st v) (last_answer (plan m) v fuel (next (plan m) st v))) (eq-eqb _ _ rests)

on_way : (m : Setup) (v fuel : ℕ) (st : State) → ((next (plan m) st v v).position ≡ 0 → ⊥) → until_rest (plan m) v (suc fuel) st ≡ until_rest (plan m) v fuel (next (plan m) st v)
unfolding until_rest
on_way m v fuel st goes = ap (λ (b : Bool). cond b (next (plan m) st v) (until_rest (plan m) v fuel (next (plan m) st v))) (ne_eqb _ _ goes)

on_way_tells : (m : Setup) (v fuel : ℕ) (st : State) → ((next (plan m) st v v).position ≡ 0 → ⊥) → last_answer (plan m) v (suc fuel) st ≡ last_answer (plan m) v fuel (next (plan m) st v)
unfolding last_answer
on_way_tells m v fuel st goes = ap (λ (b : Bool). cond b (answer_of (plan m) st v) (last_answer (plan m) v fuel (next (plan m) st v))) (ne_eqb _ _ goes)

-- what a step does
pub record Makes (a new : Actor) (told : Answer) (ends ends_new : Ends) (stands stands_new : (ℕ → List ℕ) → Type 0) : Type 0 where
  pub steps : (m : Setup) (v : ℕ) (q : Progress) → Works m v q a ends stands → MakesStep m v q told new ends_new stands_new
  pub exact : (m : Setup) (v : ℕ) (st : State) → Works m v (st v) a ends stands → ServesAll m st v ends → IsExact m st v told
  pub moves : Moves a.desk.ins.items a.desk.outs.items (missed_end told) ends ends_new
  pub late : MissesLate ends told

module _ (old a new : Actor) (told : Answer) (ends_old ends ends_new : Ends) (stands_old stands stands_new : (ℕ → List ℕ) → Type 0) (along : IsAlong old a ends_old ends stands_old stands) (makes : Makes a new told ends ends_new stands stands_new) where
  -- the moves so far, and those of the step
  moved : (m : Setup) (v fired : ℕ) (missed : Option ℕ) → Works m v (resting fired) old ends_old stands_old → missed_end told ≡ missed → Moves old.desk.ins.items old.desk.outs.items missed ends_old ends_new
  moved m v fired missed w same =
      let now = along.works m v fired w in
      moves_then old.desk.ins.items old.desk.outs.items missed ends_old ends ends_new along.moves
      (moves_at old.desk.ins.items old.desk.outs.items a.desk.ins.items a.desk.outs.items missed ends ends_new
      (same_ins m v (within fired a) (resting fired) a old ends ends_old stands stands_old now w)
      (same_outs m v (within fired a) (resting fired) a old ends ends_old stands stands_old now w)
      (subst (λ (o : Option ℕ). Moves a.desk.ins.items a.desk.outs.items o ends ends_new) same makes.moves))

  -- a step that does not end the turn
  pub goes : (m : Setup) (v fired : ℕ) → Works m v (resting fired) old ends_old stands_old → ending told ≡ None → GoesOn m v (within fired a) new ends_new stands_new
  goes m v fired w none =
      let now = along.works m v fired w in
      going_on m v (within fired a) told new ends_new stands_new now.actor.far (makes.steps m v (within fired a) now) none

  follows_on : (m : Setup) (v : ℕ) (st : State) → ending told ≡ None → Follows m v st a ends stands → Follows m v st new ends_new stands_new
  follows_on m v st none f =
      let steps = makes.steps m v (f.now v) f.works in
      let exact = exactly m v f.now told new ends_new stands_new steps (makes.exact m v f.now f.works f.serves) f.works.actor.far.capped in
      let on = going_on m v (f.now v) told new ends_new stands_new f.works.actor.far steps none in
      let here : new.desk.position ≡ (next (plan m) f.now v v).position = exact.1.actor.at.position_is in
      let also : new.desk.position ≡ (f.now v).position + 1 = on.works.actor.at.position_is in
      let inside : (f.now v).position + 1 < ends_at (length (ins_of (plan m) v)) (length (outs_of (plan m) v)) = on.works.actor.far.inside (omega arith) in
      let enough : ends_at (length (ins_of (plan m) v)) (length (outs_of (plan m) v)) ≤ f.fuel + (f.now v).position = f.enough in
      let goes_on : ((next (plan m) f.now v v).position ≡ 0 → ⊥) = λ rests. omega arith in
      let some : suc (f.fuel - 1) ≡ f.fuel = omega arith in
      record {
        now = next (plan m) f.now v;
        fuel = f.fuel - 1;
        works = exact.1;
        serves =
            serves_on m v f.now (next (plan m) f.now v) (missed_end told) ends ends_new (others_stay m v f.now) exact.1.agrees
            (moves_at (ins_of (plan m) v) (outs_of (plan m) v) a.desk.ins.items a.desk.outs.items (missed_end told) ends ends_new f.works.actor.at.drains f.works.actor.at.fills makes.moves) f.serves;
        turns = f.turns ∙ on_way m v f.fuel f.now goes_on ∙ ap (λ (n : ℕ). until_rest (plan m) v n (next (plan m) f.now v)) (sym some);
        tells = f.tells ∙ on_way_tells m v f.fuel f.now goes_on ∙ ap (λ (n : ℕ). last_answer (plan m) v n (next (plan m) f.now v)) (sym some);
        enough = omega arith;
      }

  pub along_on : (m : Setup) (v fired : ℕ) → Works m v (resting fired) old ends_old stands_old → ending told ≡ None → IsAlong old new ends_old ends_new stands_old stands_new
  along_on m v fired w none =
      record {
        works = λ m' v' fired' w'. placed m' v' fired' (a.desk.position + 1) new ends_new stands_new (goes m' v' fired' w' none).works;
        moves = moved m v fired None w (misses_none told none);
        follows = λ m' v' st rests w' serves. follows_on m' v' st none (along.follows m' v' st rests w' serves);
      }

  -- the position rises, and stays within the firing
  pub rises : (m : Setup) (v fired : ℕ) → Works m v (resting fired) old ends_old stands_old → ending told ≡ None
      → ends_at (length new.desk.ins.items) (length new.desk.outs.items) - new.desk.position < ends_at (length a.desk.ins.items) (length a.desk.outs.items) - a.desk.position
  rises m v fired w none =
      let on = goes m v fired w none in
      let now = along.works m v fired w in
      let here : new.desk.position ≡ a.desk.position + 1 = on.works.actor.at.position_is in
      let inside : a.desk.position + 1 < ends_at (length (ins_of (plan m) v)) (length (outs_of (plan m) v)) = on.works.actor.far.inside (omega arith) in
      let ins : length new.desk.ins.items ≡ length (ins_of (plan m) v) = ap length on.works.actor.at.drains in
      let outs : length new.desk.outs.items ≡ length (outs_of (plan m) v) = ap length on.works.actor.at.fills in
      let old_ins : length a.desk.ins.items ≡ length (ins_of (plan m) v) = ap length now.actor.at.drains in
      let old_outs : length a.desk.outs.items ≡ length (outs_of (plan m) v) = ap length now.actor.at.fills in
      omega arith

  pub not_at_rest : (m : Setup) (v fired : ℕ) → Works m v (resting fired) old ends_old stands_old → ending told ≡ None → new.desk.position ≡ 0 → ⊥
  not_at_rest m v fired w none rests = let here : new.desk.position ≡ a.desk.position + 1 = (goes m v fired w none).works.actor.at.position_is in omega arith

  -- a step that ends the turn
  has_ended : (m : Setup) (v fired : ℕ) (how : TurnEnd) → Works m v (resting fired) old ends_old stands_old → ending told ≡ Some how → HasEnded m v (within fired a) how new ends_new stands_new
  has_ended m v fired how w some =
      let now = along.works m v fired w in
      ended m v (within fired a) told how new ends_new stands_new now.actor.far (makes.steps m v (within fired a) now) some

  pub turned : (m : Setup) (v fired : ℕ) (how : TurnEnd) → Works m v (resting fired) old ends_old stands_old → ending told ≡ Some how → Turned m v fired how new ends_new stands_new
  turned m v fired how w some =
      let is = has_ended m v fired how w some in
      record { ends_so = is.ends_so; done = is.done; works = is.works }

  pub turned_exactly : (m : Setup) (v : ℕ) (st : State) (how : TurnEnd) → (st v).position ≡ 0 → Works m v (st v) old ends_old stands_old → ServesAll m st v ends_old → ending told ≡ Some how
      → (how ≡ end_at (turn_answer (plan m) st v)) × IsActor m v (turn (plan m) st v v) new
  turned_exactly m v st how rests w serves some =
      let f = along.follows m v st rests w serves in
      let steps = makes.steps m v (f.now v) f.works in
      let exact = exactly m v f.now told new ends_new stands_new steps (makes.exact m v f.now f.works f.serves) f.works.actor.far.capped in
      let is = ended m v (f.now v) told how new ends_new stands_new f.works.actor.far steps some in
      let here : new.desk.position ≡ (next (plan m) f.now v v).position = exact.1.actor.at.position_is in
      let also : new.desk.position ≡ 0 = is.works.actor.at.position_is in
      let end_here : (next (plan m) f.now v v).position ≡ 0 = omega arith in
      let turns : turn (plan m) st v ≡ next (plan m) f.now v = f.turns ∙ on_rest m v f.fuel f.now end_here in
      let tells : turn_answer (plan m) st v ≡ told = f.tells ∙ on_rest_tells m v f.fuel f.now end_here ∙ sym exact.0 in
      (sym (ap end_at tells ∙ (says_same ends told how some).1), subst (λ (s : State). IsActor m v (s v) new) (sym turns) exact.1.actor)

  pub turn_moves : (m : Setup) (v fired : ℕ) (how : TurnEnd) → Works m v (resting fired) old ends_old stands_old → ending told ≡ Some how → Moves old.desk.ins.items old.desk.outs.items (missed_end (answer_at how)) ends_old ends_new
  turn_moves m v fired how w some = moved m v fired (missed_end (answer_at how)) w (sym (says_same ends told how some).0)

  -- what the last look told of tokens that passed was so at first
  late_at : (m : Setup) (v fired : ℕ) (how : TurnEnd) → Works m v (resting fired) old ends_old stands_old → EndsSo m v fired how → IsEarly m v (within fired a) how → MissesLate ends (answer_at how) → MissesLate ends_old (answer_at how)
  late_at m v fired (end.Void station told) w so before late = λ f was.
      let now = along.works m v fired w in
      let moves = along.moves.some (drain station) f was in
      let later : moves.0.start ≤ moves.0.passed = late moves.0 moves.1 in
      let started : moves.0.start ≡ f.start = moves.2.start in
      let first : f.passed ≡ fired = passed_in m v (resting fired) so.0 station ends_old f w.agrees (omega arith) so.1 was in
      let last : moves.0.passed ≡ fired = passed_in m v (within fired a) so.0 station ends moves.0 now.agrees (omega arith) so.1 moves.1 in
      omega arith
  late_at m v fired (end.Stop station told) w so before late = λ f was.
      let now = along.works m v fired w in
      let moves = along.moves.some (fill station) f was in
      let later : moves.0.cap ≤ moves.0.passed = late moves.0 moves.1 in
      let same : moves.0.cap ≡ f.cap = moves.2.cap in
      let first : f.passed ≡ start_of (plan m) station + fired = passed_out m v (resting fired) so.0 station ends_old f w.agrees (omega arith) so.1 was in
      let last : moves.0.passed ≡ start_of (plan m) station + fired = passed_out m v (within fired a) so.0 station ends moves.0 now.agrees (omega arith) so.1 moves.1 in
      omega arith
  late_at m v fired end.Fired w so before late = tt
  late_at m v fired end.Done w so before late = tt

  pub turn_late : (m : Setup) (v fired : ℕ) (how : TurnEnd) → Works m v (resting fired) old ends_old stands_old → ending told ≡ Some how → MissesLate ends_old (answer_at how)
  turn_late m v fired how w some =
      let is = has_ended m v fired how w some in
      late_at m v fired how w is.ends_so is.early ((says_same ends told how some).2 makes.late)

  -- a turn that ends at the cap has not begun
  pub not_begun : (m : Setup) (v fired : ℕ) → Works m v (resting fired) old ends_old stands_old → ending told ≡ Some end.Done → a.desk.position ≡ 0
  not_begun m v fired w some =
      let now = along.works m v fired w in
      let is = has_ended m v fired end.Done w some in
      let same : fired ≡ cap (plan m) v = is.done.0 refl in
      elim (cases_lt 0 a.desk.position) [
        | inl begun ↦ (let below : fired < cap (plan m) v = now.actor.far.below begun in absurd (omega arith))
        | inr rests ↦ omega arith
      ]
