-- A turn of an actor: from rest back to rest, with one firing more, or why not.
use Rattle.std.proofs.Common.{◌≡◌, ◌≢◌, ℕ, zero, suc, ◌+◌, ◌<◌, ◌≤◌, ◌⊎◌, inl, inr, length, refl, sym, ◌∙◌, ap, arith, eq-eqb, ne_eqb}
use mathlib.Core.Logic.{dite}
use native.Mathlib.Decide.{ℕ_discrete}
use Rattle.lid_walk_machine.specs.Plans.{Plan, actors_of, ins_of, outs_of, cap, room_of}
use Rattle.lid_walk_machine.specs.Setups.{plan}
use Rattle.lid_shell_laws.specs.Setups.{Setup, IsSetup}
use Rattle.lid_walk_machine.specs.Machine.{Progress, State, takes_from, ends_at, in_at, out_at, in_count, out_count, next, until_rest, positions, turn}
use Rattle.lid_walk_machine.specs.Laws.{IsSound, HasTurned}
use Rattle.lid_walk_machine.proofs.Places.{drains_at, fills_at}
use Rattle.lid_walk_machine.proofs.Steps.{on, back, once_more}
use Rattle.lid_walk_machine.proofs.Moves.{elsewhere}
use Rattle.lid_walk_machine.proofs.Effects.{Effect, Outcome, done, acts, found_in, found_out, void, stop, took, gave, alone, Quiet, outcome}
use Rattle.lid_walk_machine.proofs.Sound.{sound_after}

-- why actor v does not fire in a state: it is at its cap, or a station that it drains is empty, or one that it fills
-- is full
pub data Bar (m : Plan) (v : ℕ) (st : State) : Type 0 where
  capped : (st v).fired ≡ cap m v → Bar m v st
  empty : (i : ℕ) → i < length (ins_of m v) → out_count m st (in_at m v i) ≡ in_count m st (in_at m v i) → Bar m v st
  full : (j : ℕ) → j < length (outs_of m v) → in_count m st (out_at m v j) ≡ out_count m st (out_at m v j) + room_of m (out_at m v j) → Bar m v st

-- what the steps of actor v up to rest leave
pub record Rested (m : Plan) (v : ℕ) (old new : State) : Type 0 where
  pub sound : IsSound m new
  pub rests : (new v).position ≡ 0
  pub others : (w : ℕ) → w ≢ v → new w ≡ old w
  pub fired : ((new v).fired ≡ (old v).fired + 1) ⊎ (((new v).fired ≡ (old v).fired) × ((old v).position ≤ takes_from (length (ins_of m v)) (length (outs_of m v))) × Bar m v old)

module _ (x : Setup) (rules : IsSetup x) (v : ℕ) (there : v < actors_of (plan x)) where
  abbrev m : Plan
  m = plan x

  abbrev I : ℕ
  I = length (ins_of m v)

  abbrev J : ℕ
  J = length (outs_of m v)

  module _ (st : State) (sound : IsSound m st) where
    abbrev q : Progress
    q = st v

    abbrev new : State
    new = next m st v

    abbrev Fired : State → Type 0
    Fired last = ((last v).fired ≡ q.fired + 1) ⊎ (((last v).fired ≡ q.fired) × (q.position ≤ takes_from I J) × Bar m v st)

    -- the step ends the turn
    stops : (p : Progress) → new v ≡ p → p.position ≡ 0 → Fired new → Rested m v st new
    stops p e rests fired = record {
      sound = sound_after x rules st v there sound;
      rests = ap (λ (y : Progress). y.position) e ∙ rests;
      others = λ w other. elsewhere m st v w other;
      fired = fired;
    }

    fired_as : (p : Progress) → new v ≡ p → (new v).fired ≡ p.fired
    fired_as p e = ap (λ (y : Progress). y.fired) e

    position_as : (p : Progress) → new v ≡ p → (new v).position ≡ p.position
    position_as p e = ap (λ (y : Progress). y.position) e

    -- what bars it after a look has barred it before
    bar_before : Quiet m st v → (new v).fired ≡ q.fired → Bar m v new → Bar m v st
    bar_before quiet same (capped h) = capped (sym same ∙ h)
    bar_before quiet same (empty i h is) =
        let place = drains_at m v i h in
        empty i h (omega (arith, is, quiet.outs (in_at m v i) place.there, quiet.ins (in_at m v i) place.there))
    bar_before quiet same (full j h is) =
        let place = fills_at m v j h in
        full j h (omega (arith, is, quiet.outs (out_at m v j) place.there, quiet.ins (out_at m v j) place.there))

    -- what the rest of the turn leaves, it leaves from here
    goes_on : (last : State) → Rested m v new last → Fired last → Rested m v st last
    goes_on last rested fired = record {
      sound = rested.sound;
      rests = rested.rests;
      others = λ w other. rested.others w other ∙ elsewhere m st v w other;
      fired = fired;
    }

    after_look : (last : State) → Quiet m st v → new v ≡ on m v q → q.position < takes_from I J → Rested m v new last → Rested m v st last
    after_look last quiet e early rested = goes_on last rested (by_fired rested.fired)
      where
        by_fired : ((last v).fired ≡ (new v).fired + 1) ⊎ (((last v).fired ≡ (new v).fired) × ((new v).position ≤ takes_from I J) × Bar m v new) → Fired last
        by_fired (inl h) = inl (omega (arith, h, fired_as (on m v q) e))
        by_fired (inr h) = inr (h.0 ∙ fired_as (on m v q) e, omega (arith, early), bar_before quiet (fired_as (on m v q) e) h.2)

    after_move : (last : State) → new v ≡ on m v q → takes_from I J ≤ q.position → Rested m v new last → Rested m v st last
    after_move last e late rested = goes_on last rested (by_fired rested.fired)
      where
        by_fired : ((last v).fired ≡ (new v).fired + 1) ⊎ (((last v).fired ≡ (new v).fired) × ((new v).position ≤ takes_from I J) × Bar m v new) → Fired last
        by_fired (inl h) = inl (omega (arith, h, fired_as (on m v q) e))
        by_fired (inr h) = absurd (omega (arith, h.1, position_as (on m v q) e, late))

  module _ (fuel : ℕ) (rest : (s : State) → IsSound m s → ends_at I J < fuel + (s v).position → Rested m v s (until_rest m v fuel s))
      (st : State) (sound : IsSound m st) (h : ends_at I J < suc fuel + (st v).position) where
    abbrev then_ : State
    then_ = next m st v

    abbrev last : State
    last = until_rest m v (suc fuel) st

    ends : (p : Progress) → then_ v ≡ p → p.position ≡ 0 → Fired st sound then_ → Rested m v st last
    unfolding until_rest
    ends p e rests fired = rw (eq-eqb (then_ v).position 0 (position_as st sound p e ∙ rests)) (stops st sound p e rests fired)

    more : (p : Progress) → then_ v ≡ p → p.position ≡ (st v).position + 1 → (Rested m v then_ (until_rest m v fuel then_) → Rested m v st (until_rest m v fuel then_)) → Rested m v st last
    unfolding until_rest
    more p e position carry =
        let now : (then_ v).position ≡ (st v).position + 1 = position_as st sound p e ∙ position in
        rw (ne_eqb (then_ v).position 0 (λ rests. omega (arith, rests, now)))
        (carry (rest then_ (sound_after x rules st v there sound) (omega (arith, h, now))))

    by_effect : (st v).fired ≢ cap m v → Effect m st v → Rested m v st last
    by_effect below (found_in i within e other is quiet) = more (on m v (st v)) is refl (after_look st sound _ quiet is (omega (arith, within, e)))
    by_effect below (found_out j within e other is quiet) = more (on m v (st v)) is refl (after_look st sound _ quiet is (omega (arith, within, e)))
    by_effect below (void i within e same is quiet) = ends (back m v (st v)) is refl (inr (fired_as st sound (back m v (st v)) is, omega (arith, within, e), empty i within (sym same)))
    by_effect below (stop j within e same is quiet) =
        let kept = sound.stations (out_at m v j) (fills_at m v j within).there in
        ends (back m v (st v)) is refl (inr (fired_as st sound (back m v (st v)) is, omega (arith, within, e), full j within (omega (arith, same, kept.ordered, kept.few))))
    by_effect below (took i within e (inl is) outs ins) = more (on m v (st v)) is.0 refl (after_move st sound _ is.0 (omega (arith, e)))
    by_effect below (took i within e (inr is) outs ins) = ends (once_more m v (st v)) is.0 refl (inl (fired_as st sound (once_more m v (st v)) is.0))
    by_effect below (gave j within e (inl is) outs ins) = more (on m v (st v)) is.0 refl (after_move st sound _ is.0 (omega (arith, e)))
    by_effect below (gave j within e (inr is) outs ins) = ends (once_more m v (st v)) is.0 refl (inl (fired_as st sound (once_more m v (st v)) is.0))
    by_effect below (alone past is quiet) = ends (once_more m v (st v)) is refl (inl (fired_as st sound (once_more m v (st v)) is))

    rests_at_cap : (st v).fired ≡ cap m v → (st v).position ≡ 0
    rests_at_cap at = dite (ℕ_discrete (st v).position 0) (λ rests. rests) (λ begun. absurd (omega (arith, at, (sound.actors v there).below (omega (arith, begun)))))

    by_outcome : Outcome m st v → Rested m v st last
    by_outcome (done at is quiet) = ends (st v) is (rests_at_cap at) (inr (fired_as st sound (st v) is, omega (arith, rests_at_cap at), capped at))
    by_outcome (acts below effect) = by_effect below effect

    one_more : Rested m v st last
    one_more = by_outcome (outcome m st v (sound.actors v there))

  turned : (fuel : ℕ) (st : State) → IsSound m st → ends_at I J < fuel + (st v).position → Rested m v st (until_rest m v fuel st)
  unfolding until_rest
  turned zero st sound h =
      let was = sound.actors v there in
      absurd (dite (ℕ_discrete (st v).position 0) (λ rests. omega (arith, rests, h)) (λ begun. omega (arith, h, was.inside (omega (arith, begun)))))
  turned (suc fuel) st sound h = one_more fuel (turned fuel) st sound h

  pub turn_rests : (st : State) → IsSound m st → Rested m v st (turn m st v)
  turn_rests st sound = turned (positions m v) st sound (omega arith)

  pub has_turned : (st : State) → IsSound m st → HasTurned m v st (turn m st v)
  has_turned st sound =
      let rested = turn_rests st sound in
      record {
        sound = rested.sound;
        rests = rested.rests;
        once = by_fired rested.fired;
        goes_on = not_fewer rested.fired;
        others = rested.others;
      }
    where
      last : State
      last = turn m st v

      by_fired : ((last v).fired ≡ (st v).fired + 1) ⊎ (((last v).fired ≡ (st v).fired) × ((st v).position ≤ takes_from I J) × Bar m v st) → (last v).fired ≤ (st v).fired + 1
      by_fired (inl h) = omega (arith, h)
      by_fired (inr h) = omega (arith, h.0)

      not_fewer : ((last v).fired ≡ (st v).fired + 1) ⊎ (((last v).fired ≡ (st v).fired) × ((st v).position ≤ takes_from I J) × Bar m v st) → (st v).fired ≤ (last v).fired
      not_fewer (inl h) = omega (arith, h)
      not_fewer (inr h) = omega (arith, h.0)
