-- Each step keeps the rules of states.
use Rattle.std.proofs.Common.{◌≡◌, ◌≢◌, ℕ, ◌+◌, ◌<◌, ◌≤◌, ◌⊎◌, inl, inr, length, refl, sym, ◌∙◌, ap, subst, arith, eq-eqb, ne_eqb}
use mathlib.Core.Logic.{dite}
use native.Mathlib.Decide.{ℕ_discrete}
use Rattle.lid_stations.proofs.Spots.{cap_range}
use Rattle.lid_shell_laws.proofs.Caps.{start_and_cap, start_small}
use Rattle.lid_shell_laws.specs.Runs.{place_in}
use Rattle.lid_walk_machine.specs.Plans.{Plan, actors_of, stations_of, ins_of, outs_of, drainer_of, filler_of, cap, start_of, room_of}
use Rattle.lid_walk_machine.specs.Setups.{plan}
use Rattle.lid_shell_laws.specs.Setups.{Setup, IsSetup}
use Rattle.lid_walk_machine.specs.Machine.{Progress, State, begun, takes_from, puts_from, ends_at, in_at, out_at, in_count, out_count, next}
use Rattle.lid_walk_machine.specs.Laws.{KeepsPrefixes, IsWithin, FindsStay, IsSound}
use Rattle.lid_walk_machine.proofs.Places.{drains_at, fills_at}
use Rattle.lid_walk_machine.proofs.Steps.{taken_early, put_early, on, back, once_more}
use Rattle.lid_walk_machine.proofs.Moves.{elsewhere, in_here, out_else, in_else, none, one_at}
use Rattle.lid_walk_machine.proofs.Effects.{Effect, Outcome, done, acts, found_in, found_out, void, stop, took, gave, alone, Quiet, outcome}

module _ (m : Plan) (st : State) (v : ℕ) (sound : IsSound m st) (there : v < actors_of m)
    (fits : (station : ℕ) → station < stations_of m → start_of m station + cap m (filler_of m station) ≡ m.rows) where
  abbrev I : ℕ
  I = length (ins_of m v)

  abbrev J : ℕ
  J = length (outs_of m v)

  abbrev q : Progress
  q = st v

  abbrev new : State
  new = next m st v

  -- a token that is taken is there
  token_there : (i : ℕ) → i < I → q.position ≡ takes_from I J + i → out_count m st (in_at m v i) < in_count m st (in_at m v i)
  token_there i h e = (sound.finds v there).tokens i h (omega (arith, e, h)) (omega (arith, e))

  -- a token that is put has room, and is one of the stream
  room_there : (j : ℕ) → j < J → q.position ≡ puts_from I J + j → in_count m st (out_at m v j) < out_count m st (out_at m v j) + room_of m (out_at m v j)
  room_there j h e = (sound.finds v there).rooms j h (omega (arith, e, h)) (omega (arith, e))

  row_there : (j : ℕ) → j < J → q.position ≡ puts_from I J + j → in_count m st (out_at m v j) < m.rows
  row_there j h e =
      let place = fills_at m v j h in
      let below : q.fired < cap m v = (sound.actors v there).below (omega (arith, e, h)) in
      let whole : start_of m (out_at m v j) + cap m v ≡ m.rows = ap (λ (w : ℕ). start_of m (out_at m v j) + cap m w) (sym place.filler) ∙ fits (out_at m v j) place.there in
      omega (arith, in_here m st v st v j (out_at m v j) place, put_early m v q j (omega (arith, e)), below, whole)

  -- no count falls
  abbrev Grows : Type 0
  Grows = (station : ℕ) → station < stations_of m → (out_count m st station ≤ out_count m new station) × (in_count m st station ≤ in_count m new station)

  quiet_grows : Quiet m st v → Grows
  quiet_grows quiet station h = (omega (arith, quiet.outs station h), omega (arith, quiet.ins station h))

  effect_grows : Effect m st v → Grows
  effect_grows (found_in i a b c d quiet) station h = quiet_grows quiet station h
  effect_grows (found_out j a b c d quiet) station h = quiet_grows quiet station h
  effect_grows (void i a b c d quiet) station h = quiet_grows quiet station h
  effect_grows (stop j a b c d quiet) station h = quiet_grows quiet station h
  effect_grows (took i a b c outs ins) station h = (omega (arith, outs station h), omega (arith, ins station h))
  effect_grows (gave j a b c outs ins) station h = (omega (arith, outs station h), omega (arith, ins station h))
  effect_grows (alone a b quiet) station h = quiet_grows quiet station h

  grows : Outcome m st v → Grows
  grows (done h same quiet) = quiet_grows quiet
  grows (acts below effect) = effect_grows effect

  module _ (station : ℕ) (h : station < stations_of m) where
    quiet_keeps : Quiet m st v → KeepsPrefixes m new station
    quiet_keeps quiet =
        let was = sound.stations station h in
        let outs = quiet.outs station h in
        let ins = quiet.ins station h in
        record { ordered = omega (arith, was.ordered, outs, ins); within = omega (arith, was.within, ins); few = omega (arith, was.few, outs, ins) }

    keeps : Effect m st v → KeepsPrefixes m new station
    keeps (found_in i a b c d quiet) = quiet_keeps quiet
    keeps (found_out j a b c d quiet) = quiet_keeps quiet
    keeps (void i a b c d quiet) = quiet_keeps quiet
    keeps (stop j a b c d quiet) = quiet_keeps quiet
    keeps (alone a b quiet) = quiet_keeps quiet
    keeps (took i within e moved outs ins) =
        let was = sound.stations station h in
        let same = ins station h in
        let more = outs station h in
        dite (ℕ_discrete station (in_at m v i))
        (λ is.
        let one : out_count m new station ≡ out_count m st station + 1 = more ∙ rw (eq-eqb station (in_at m v i) is) refl in
        let token : out_count m st station < in_count m st station = subst (λ (s : ℕ). out_count m st s < in_count m st s) (sym is) (token_there i within e) in
        record { ordered = omega (arith, one, same, token); within = omega (arith, was.within, same); few = omega (arith, was.few, one, same) })
        (λ other.
        let none_more : out_count m new station ≡ out_count m st station + 0 = more ∙ rw (ne_eqb station (in_at m v i) other) refl in
        record { ordered = omega (arith, was.ordered, none_more, same); within = omega (arith, was.within, same); few = omega (arith, was.few, none_more, same) })
    keeps (gave j within e moved outs ins) =
        let was = sound.stations station h in
        let same = outs station h in
        let more = ins station h in
        dite (ℕ_discrete station (out_at m v j))
        (λ is.
        let one : in_count m new station ≡ in_count m st station + 1 = more ∙ rw (eq-eqb station (out_at m v j) is) refl in
        let room : in_count m st station < out_count m st station + room_of m station = subst (λ (s : ℕ). in_count m st s < out_count m st s + room_of m s) (sym is) (room_there j within e) in
        let row : in_count m st station < m.rows = subst (λ (s : ℕ). in_count m st s < m.rows) (sym is) (row_there j within e) in
        record { ordered = omega (arith, was.ordered, one, same); within = omega (arith, row, one); few = omega (arith, room, one, same) })
        (λ other.
        let none_more : in_count m new station ≡ in_count m st station + 0 = more ∙ rw (ne_eqb station (out_at m v j) other) refl in
        record { ordered = omega (arith, was.ordered, none_more, same); within = omega (arith, was.within, none_more); few = omega (arith, was.few, none_more, same) })

  -- the actor itself
  abbrev Within : Progress → Type 0
  Within x = (x.fired ≤ cap m v) × (0 < x.position → x.fired < cap m v) × (0 < x.position → x.position < ends_at I J)

  module _ (was : IsWithin m st v) where
    within_by : (x : Progress) → new v ≡ x → Within x → IsWithin m new v
    within_by x e w = let there = subst Within (sym e) w in record { capped = there.0; below = there.1; inside = there.2 }

    at_rest : (x : Progress) → new v ≡ x → x.fired ≤ cap m v → x.position ≡ 0 → IsWithin m new v
    at_rest x e few rests = within_by x e (few, λ begun. absurd (omega (arith, rests, begun)), λ begun. absurd (omega (arith, rests, begun)))

    module _ (below : q.fired ≢ cap m v) where
      less : q.fired < cap m v
      less = omega (arith, below, was.capped)

      goes_on : new v ≡ on m v q → q.position + 1 < ends_at I J → IsWithin m new v
      goes_on e inside = within_by (on m v q) e (omega (arith, less), λ begun. less, λ begun. inside)

      moved : q.position < ends_at I J → ((new v ≡ on m v q) × (q.position + 1 ≢ ends_at I J)) ⊎ ((new v ≡ once_more m v q) × (q.position + 1 ≡ ends_at I J)) → IsWithin m new v
      moved inside (inl e) = goes_on e.0 (omega (arith, inside, e.1))
      moved inside (inr e) = at_rest (once_more m v q) e.0 (omega (arith, less)) refl

      acted : Effect m st v → IsWithin m new v
      acted (found_in i h e other is quiet) = goes_on is (omega (arith, h, e))
      acted (found_out j h e other is quiet) = goes_on is (omega (arith, h, e))
      acted (void i h e same is quiet) = at_rest (back m v q) is was.capped refl
      acted (stop j h e same is quiet) = at_rest (back m v q) is was.capped refl
      acted (took i h e is outs ins) = moved (omega (arith, h, e)) is
      acted (gave j h e is outs ins) = moved (omega (arith, h, e)) is
      acted (alone h is quiet) = at_rest (once_more m v q) is (omega (arith, less)) refl

  within_new : Outcome m st v → IsWithin m new v
  within_new (done h same quiet) = let was = sound.actors v there in within_by was q same (was.capped, was.below, was.inside)
  within_new (acts below effect) = acted (sound.actors v there) below effect

  keeps_all : Outcome m st v → (station : ℕ) → station < stations_of m → KeepsPrefixes m new station
  keeps_all (done h same quiet) station within = quiet_keeps station within quiet
  keeps_all (acts below effect) station within = keeps station within effect

  -- what another actor has found stays: only that takes what it drains, and fills what it fills
  stays_else : (w : ℕ) → w ≢ v → w < actors_of m → Grows → FindsStay m new w
  stays_else w other within more = record {
    tokens = λ i h begun early.
        let place = drains_at m w i h in
        let same : out_count m new (in_at m w i) ≡ out_count m st (in_at m w i) = out_else m st v (in_at m w i) (λ is. other (sym place.drainer ∙ is)) in
        let old = (sound.finds w within).tokens i h (subst (λ (x : Progress). i < x.position) (elsewhere m st v w other) begun) (subst (λ (x : Progress). x.position ≤ takes_from (length (ins_of m w)) (length (outs_of m w)) + i) (elsewhere m st v w other) early) in
        omega (arith, old, same, (more (in_at m w i) place.there).1);
    rooms = λ j h begun early.
        let place = fills_at m w j h in
        let same : in_count m new (out_at m w j) ≡ in_count m st (out_at m w j) = in_else m st v (out_at m w j) (λ is. other (sym place.filler ∙ is)) in
        let old = (sound.finds w within).rooms j h (subst (λ (x : Progress). length (ins_of m w) + j < x.position) (elsewhere m st v w other) begun) (subst (λ (x : Progress). x.position ≤ puts_from (length (ins_of m w)) (length (outs_of m w)) + j) (elsewhere m st v w other) early) in
        omega (arith, old, same, (more (out_at m w j) place.there).0);
  }

  -- at rest an actor has found nothing
  nothing_found : (new v).position ≡ 0 → FindsStay m new v
  nothing_found rests = record {
    tokens = λ i h begun early. absurd (omega (arith, rests, begun));
    rooms = λ j h begun early. absurd (omega (arith, rests, begun));
  }

  position_is : (x : Progress) → new v ≡ x → (new v).position ≡ x.position
  position_is x e = ap (λ (y : Progress). y.position) e

  abbrev Finds : Type 0
  Finds = FindsStay m st v

  -- and what this one has found
  module _ (was : Finds) where
    after_look : Quiet m st v → (new v).position ≡ q.position + 1
        → ((i : ℕ) → i < I → q.position ≡ i → out_count m st (in_at m v i) < in_count m st (in_at m v i))
        → ((j : ℕ) → j < J → q.position ≡ I + j → in_count m st (out_at m v j) < out_count m st (out_at m v j) + room_of m (out_at m v j))
        → FindsStay m new v
    after_look quiet on token room = record {
      tokens = λ i h begun early.
          let place = drains_at m v i h in
          let old : out_count m st (in_at m v i) < in_count m st (in_at m v i) = dite (ℕ_discrete q.position i) (λ is. token i h is) (λ other. was.tokens i h (omega (arith, other, begun, on)) (omega (arith, early, on))) in
          omega (arith, old, quiet.outs (in_at m v i) place.there, quiet.ins (in_at m v i) place.there);
      rooms = λ j h begun early.
          let place = fills_at m v j h in
          let old : in_count m st (out_at m v j) < out_count m st (out_at m v j) + room_of m (out_at m v j) = dite (ℕ_discrete q.position (I + j)) (λ is. room j h is) (λ other. was.rooms j h (omega (arith, other, begun, on)) (omega (arith, early, on))) in
          omega (arith, old, quiet.outs (out_at m v j) place.there, quiet.ins (out_at m v j) place.there);
    }

    after_take : (i : ℕ) → i < I → q.position ≡ takes_from I J + i → (new v).position ≡ q.position + 1
        → ((station : ℕ) → station < stations_of m → out_count m new station ≡ out_count m st station + one_at (in_at m v i) station)
        → ((station : ℕ) → station < stations_of m → in_count m new station ≡ in_count m st station + none station) → FindsStay m new v
    after_take i within e on outs ins = record {
      tokens = λ k h begun early.
          let place = drains_at m v k h in
          let apart : in_at m v k ≢ in_at m v i = λ is. omega (arith, sym place.place ∙ ap (place_in (ins_of m v)) is ∙ (drains_at m v i within).place, early, on, e) in
          let same : out_count m new (in_at m v k) ≡ out_count m st (in_at m v k) + 0 = outs (in_at m v k) place.there ∙ rw (ne_eqb (in_at m v k) (in_at m v i) apart) refl in
          omega (arith, was.tokens k h (omega (arith, h, e)) (omega (arith, early, on)), same, ins (in_at m v k) place.there);
      rooms = λ j h begun early.
          let place = fills_at m v j h in
          omega (arith, was.rooms j h (omega (arith, h, e)) (omega (arith, early, on)), outs (out_at m v j) place.there, ins (out_at m v j) place.there);
    }

    after_put : (j : ℕ) → j < J → q.position ≡ puts_from I J + j → (new v).position ≡ q.position + 1
        → ((station : ℕ) → station < stations_of m → out_count m new station ≡ out_count m st station + none station)
        → ((station : ℕ) → station < stations_of m → in_count m new station ≡ in_count m st station + one_at (out_at m v j) station) → FindsStay m new v
    after_put j within e on outs ins = record {
      tokens = λ i h begun early. absurd (omega (arith, early, on, e, h));
      rooms = λ k h begun early.
          let place = fills_at m v k h in
          let apart : out_at m v k ≢ out_at m v j = λ is. omega (arith, sym place.place ∙ ap (place_in (outs_of m v)) is ∙ (fills_at m v j within).place, early, on, e) in
          let same : in_count m new (out_at m v k) ≡ in_count m st (out_at m v k) + 0 = ins (out_at m v k) place.there ∙ rw (ne_eqb (out_at m v k) (out_at m v j) apart) refl in
          omega (arith, was.rooms k h (omega (arith, h, e)) (omega (arith, early, on)), same, outs (out_at m v k) place.there);
    }

    stays : Effect m st v → FindsStay m new v
    stays (found_in i h e other is quiet) =
        let place = drains_at m v i h in
        let token : out_count m st (in_at m v i) < in_count m st (in_at m v i) = omega (arith, other, (sound.stations (in_at m v i) place.there).ordered) in
        after_look quiet (position_is (on m v q) is)
        (λ k within at. subst (λ (n : ℕ). out_count m st (in_at m v n) < in_count m st (in_at m v n)) (sym e ∙ at) token)
        (λ k within at. absurd (omega (arith, at, e, h)))
    stays (found_out j h e other is quiet) =
        let place = fills_at m v j h in
        let kept = sound.stations (out_at m v j) place.there in
        let room : in_count m st (out_at m v j) < out_count m st (out_at m v j) + room_of m (out_at m v j) = omega (arith, other, kept.few, kept.ordered) in
        after_look quiet (position_is (on m v q) is)
        (λ k within at. absurd (omega (arith, at, e, within)))
        (λ k within at. subst (λ (n : ℕ). in_count m st (out_at m v n) < out_count m st (out_at m v n) + room_of m (out_at m v n)) (omega (arith, at, e)) room)
    stays (void i h e same is quiet) = nothing_found (position_is (back m v q) is)
    stays (stop j h e same is quiet) = nothing_found (position_is (back m v q) is)
    stays (took i h e (inl is) outs ins) = after_take i h e (position_is (on m v q) is.0) outs ins
    stays (took i h e (inr is) outs ins) = nothing_found (position_is (once_more m v q) is.0)
    stays (gave j h e (inl is) outs ins) = after_put j h e (position_is (on m v q) is.0) outs ins
    stays (gave j h e (inr is) outs ins) = nothing_found (position_is (once_more m v q) is.0)
    stays (alone h is quiet) = nothing_found (position_is (once_more m v q) is)

  stays_here : Outcome m st v → FindsStay m new v
  stays_here (done h same quiet) =
      let was = sound.finds v there in
      record {
        tokens = λ i h begun early.
            let place = drains_at m v i h in
            omega (arith, was.tokens i h (subst (λ (x : Progress). i < x.position) same begun) (subst (λ (x : Progress). x.position ≤ takes_from I J + i) same early), quiet.outs (in_at m v i) place.there, quiet.ins (in_at m v i) place.there);
        rooms = λ j h begun early.
            let place = fills_at m v j h in
            omega (arith, was.rooms j h (subst (λ (x : Progress). I + j < x.position) same begun) (subst (λ (x : Progress). x.position ≤ puts_from I J + j) same early), quiet.outs (out_at m v j) place.there, quiet.ins (out_at m v j) place.there);
      }
  stays_here (acts below effect) = stays (sound.finds v there) effect

  within_else : (w : ℕ) → w ≢ v → IsWithin m st w → IsWithin m new w
  within_else w other was =
      let same : new w ≡ st w = elsewhere m st v w other in
      record {
        capped = subst (λ (x : Progress). x.fired ≤ cap m w) (sym same) was.capped;
        below = subst (λ (x : Progress). 0 < x.position → x.fired < cap m w) (sym same) was.below;
        inside = subst (λ (x : Progress). 0 < x.position → x.position < ends_at (length (ins_of m w)) (length (outs_of m w))) (sym same) was.inside;
      }

  sound_by : Outcome m st v → IsSound m new
  sound_by is = record {
    actors = λ w h. dite (ℕ_discrete w v) (λ same. subst (λ (u : ℕ). IsWithin m new u) (sym same) (within_new is)) (λ other. within_else w other (sound.actors w h));
    stations = λ station h. keeps_all is station h;
    finds = λ w h. dite (ℕ_discrete w v) (λ same. subst (λ (u : ℕ). FindsStay m new u) (sym same) (stays_here is)) (λ other. stays_else w other h (grows is));
  }

  pub sound_next : IsSound m new
  sound_next = sound_by (outcome m st v (sound.actors v there))

module _ (x : Setup) (rules : IsSetup x) where
  -- what a station starts with and the cap of who fills it make the rows
  pub starts_fit : (station : ℕ) → station < stations_of (plan x) → start_of (plan x) station + cap (plan x) (filler_of (plan x) station) ≡ (plan x).rows
  starts_fit station h = start_and_cap x.system x.placement rules.system rules.fits (length x.input) station h

  pub sound_after : (st : State) (v : ℕ) → v < actors_of (plan x) → IsSound (plan x) st → IsSound (plan x) (next (plan x) st v)
  sound_after st v there sound = sound_next (plan x) st v sound there starts_fit

  pub sound_begun : IsSound (plan x) begun
  sound_begun = record {
    actors = λ v h. record { capped = omega arith; below = λ begun_one. absurd (omega (arith, begun_one)); inside = λ begun_one. absurd (omega (arith, begun_one)) };
    stations = λ station h.
        let small = start_small x.system x.placement rules.system rules.fits station in
        let room : 2 ≤ room_of (plan x) station = (cap_range x.system x.placement rules.system rules.fits station h).0 in
        let whole = starts_fit station h in
        let out : out_count (plan x) begun station ≡ 0 = taken_early (plan x) (drainer_of (plan x) station) (begun (drainer_of (plan x) station)) (place_in (ins_of (plan x) (drainer_of (plan x) station)) station) (omega arith) in
        let put = put_early (plan x) (filler_of (plan x) station) (begun (filler_of (plan x) station)) (place_in (outs_of (plan x) (filler_of (plan x) station)) station) (omega arith) in
        let start : start_of (plan x) station ≤ 1 = omega (arith, small) in
        record { ordered = omega (arith, out); within = omega (arith, put, whole); few = omega (arith, out, put, start, room) };
    finds = λ v h. record {
      tokens = λ i within begun_one early. absurd (omega (arith, begun_one));
      rooms = λ j within begun_one early. absurd (omega (arith, begun_one));
    };
  }
