-- The effect of each act: on the counts at all stations, and on how far its actor is.
use Rattle.std.proofs.Common.{◌≡◌, ◌≢◌, ℕ, ◌+◌, ◌-◌, ◌<◌, ◌≤◌, ◌⊎◌, inl, inr, ◌==◌, not, Bool, true, false, true≢false, length, refl, sym, ◌∙◌, ap, arith, eq-eqb, ne_eqb}
use Rattle.std.proofs.lemmas.Bool.{cases_lt}
use mathlib.Core.Logic.{dite}
use native.Mathlib.Decide.{ℕ_discrete}
use Rattle.lid_walk_machine.specs.Plans.{Plan, ins_of, outs_of, cap, room_of}
use Rattle.lid_walk_machine.specs.Machine.{Progress, State, takes_from, puts_from, ends_at, after_as, act_of, taken_by, put_by, in_at, out_at, in_count, out_count, finds, finds_at, next}
use Rattle.lid_walk_machine.specs.Laws.{IsWithin}
use Rattle.lid_walk_machine.proofs.Acts.{At, at_in, at_out, at_take, at_put, at_end, at, act_in, act_out}
use Rattle.lid_walk_machine.proofs.Counts.{counted, early, late}
use Rattle.lid_walk_machine.proofs.Steps.{taken_early, taken_late, put_early, after_cap, after_found_in, after_found_out, after_void, after_stop, after_take, after_last_take, after_put, after_last_put, after_alone, on, back, once_more}
use Rattle.lid_walk_machine.proofs.Moves.{here, OutMore, InMore, Taken, Put, none, one_at, out_same, in_same, out_one, in_one}

-- a test that fails found no difference
tested : (a b : ℕ) → not (a == b) ≡ false → a ≡ b
tested a b h = dite (ℕ_discrete a b) (λ is. is) (λ other. absurd (true≢false (sym (ap not (ne_eqb a b other)) ∙ h)))

module _ (m : Plan) (st : State) (v : ℕ) where
  abbrev I : ℕ
  I = length (ins_of m v)

  abbrev J : ℕ
  J = length (outs_of m v)

  abbrev q : Progress
  q = st v

  abbrev new : Progress
  new = next m st v v

  -- no count changes
  pub record Quiet : Type 0 where
    pub outs : OutMore m st v none
    pub ins : InMore m st v none

  -- what an actor that is below its cap does in a step
  pub data Effect : Type 0 where
    found_in : (i : ℕ) → i < I → q.position ≡ i → in_count m st (in_at m v i) ≢ out_count m st (in_at m v i) → new ≡ on m v q → Quiet → Effect
    found_out : (j : ℕ) → j < J → q.position ≡ I + j → in_count m st (out_at m v j) - out_count m st (out_at m v j) ≢ room_of m (out_at m v j) → new ≡ on m v q → Quiet → Effect
    void : (i : ℕ) → i < I → q.position ≡ i → in_count m st (in_at m v i) ≡ out_count m st (in_at m v i) → new ≡ back m v q → Quiet → Effect
    stop : (j : ℕ) → j < J → q.position ≡ I + j → in_count m st (out_at m v j) - out_count m st (out_at m v j) ≡ room_of m (out_at m v j) → new ≡ back m v q → Quiet → Effect
    took : (i : ℕ) → i < I → q.position ≡ takes_from I J + i → ((new ≡ on m v q) × (q.position + 1 ≢ ends_at I J)) ⊎ ((new ≡ once_more m v q) × (q.position + 1 ≡ ends_at I J))
        → OutMore m st v (one_at (in_at m v i)) → InMore m st v none → Effect
    gave : (j : ℕ) → j < J → q.position ≡ puts_from I J + j → ((new ≡ on m v q) × (q.position + 1 ≢ ends_at I J)) ⊎ ((new ≡ once_more m v q) × (q.position + 1 ≡ ends_at I J))
        → OutMore m st v none → InMore m st v (one_at (out_at m v j)) → Effect
    alone : ends_at I J ≤ q.position → new ≡ once_more m v q → Quiet → Effect

  -- and what any actor does
  pub data Outcome : Type 0 where
    done : q.fired ≡ cap m v → new ≡ q → Quiet → Outcome
    acts : q.fired ≢ cap m v → Effect → Outcome

  quiet_by : ((i : ℕ) → i < I → taken_by m v new i ≡ taken_by m v q i) → ((j : ℕ) → j < J → put_by m v new j ≡ put_by m v q j) → Quiet
  quiet_by taken put = record {
    outs = out_same m st v (λ i h. omega (arith, taken i h));
    ins = in_same m st v (λ j h. omega (arith, put j h));
  }

  -- before the takes no count hangs on the position
  quiet_early : new.fired ≡ q.fired → new.position ≤ takes_from I J → q.position ≤ takes_from I J → Quiet
  quiet_early same low early = quiet_by
      (λ i h. omega (arith, taken_early m v q i (omega (arith, early)), taken_early m v new i (omega (arith, low)), same))
      (λ j h. omega (arith, put_early m v q j (omega (arith, early)), put_early m v new j (omega (arith, low)), same))

  module _ (found : Bool) (is : finds m st v ≡ found) where
    new_is : new ≡ after_as m v q found
    new_is = here m st v ∙ ap (after_as m v q) is

    at_cap : q.fired ≡ cap m v → Outcome
    at_cap h =
        let same : new ≡ q = new_is ∙ after_cap m v q found h in
        done h same (quiet_by (λ i within. ap (λ (x : Progress). taken_by m v x i) same) (λ j within. ap (λ (x : Progress). put_by m v x j) same))

  module _ (below : q.fired ≢ cap m v) where
    looked : (p : ℕ) → new ≡ record { fired = q.fired; position = p } → p ≤ takes_from I J → q.position < takes_from I J → Quiet
    looked p e low early =
        let fired : new.fired ≡ q.fired = ap (λ (x : Progress). x.fired) e in
        let position : new.position ≡ p = ap (λ (x : Progress). x.position) e in
        quiet_early fired (omega (arith, position, low)) (omega (arith, early))

    look_in : (i : ℕ) → i < I → q.position ≡ i → (found : Bool) → finds m st v ≡ found → not (in_count m st (in_at m v i) == out_count m st (in_at m v i)) ≡ found → Effect
    look_in i h e true is test =
        let new_on : new ≡ on m v q = new_is true is ∙ after_found_in m v q i h e below in
        found_in i h e (λ same. true≢false (sym test ∙ ap not (eq-eqb _ _ same))) new_on (looked (q.position + 1) new_on (omega (arith, h, e)) (omega (arith, h, e)))
    look_in i h e false is test =
        let new_back : new ≡ back m v q = new_is false is ∙ after_void m v q i h e below in
        let same : in_count m st (in_at m v i) ≡ out_count m st (in_at m v i) = tested _ _ test in
        void i h e same new_back (looked 0 new_back (omega arith) (omega (arith, h, e)))

    look_out : (j : ℕ) → j < J → q.position ≡ I + j → (found : Bool) → finds m st v ≡ found → not (in_count m st (out_at m v j) - out_count m st (out_at m v j) == room_of m (out_at m v j)) ≡ found → Effect
    look_out j h e true is test =
        let new_on : new ≡ on m v q = new_is true is ∙ after_found_out m v q j h e below in
        found_out j h e (λ same. true≢false (sym test ∙ ap not (eq-eqb _ _ same))) new_on (looked (q.position + 1) new_on (omega (arith, h, e)) (omega (arith, h, e)))
    look_out j h e false is test =
        let new_back : new ≡ back m v q = new_is false is ∙ after_stop m v q j h e below in
        stop j h e (tested _ _ test) new_back (looked 0 new_back (omega arith) (omega (arith, h, e)))

    -- an act is done: the firing goes on, or ends
    abbrev Went : Type 0
    Went = ((new.fired ≡ q.fired) × (new.position ≡ q.position + 1)) ⊎ ((new.fired ≡ q.fired + 1) × (new.position ≡ 0) × (q.position + 1 ≡ ends_at I J))

    -- at its place it raises the count by one, and at no other
    raised : (from many : ℕ) → from + many ≤ ends_at I J → (place : ℕ) → q.position ≡ from + place → Went
        → (k : ℕ) → k < many → counted (from + k) new.fired new.position ≡ counted (from + k) q.fired q.position + one_at place k
    raised from many fits place here (inl on) k within =
        dite (ℕ_discrete k place)
        (λ same. rw (eq-eqb k place same) (omega (arith, early (from + k) q.fired q.position (omega (arith, here, same)), late (from + k) new.fired new.position (omega (arith, here, same, on.1)), on.0)))
        (λ other. rw (ne_eqb k place other) (by_order (cases_lt k place) other))
      where
        by_order : (k < place) ⊎ (place ≤ k) → k ≢ place → counted (from + k) new.fired new.position ≡ counted (from + k) q.fired q.position + 0
        by_order (inl low) other = omega (arith, late (from + k) q.fired q.position (omega (arith, here, low)), late (from + k) new.fired new.position (omega (arith, here, low, on.1)), on.0)
        by_order (inr high) other = omega (arith, early (from + k) q.fired q.position (omega (arith, here, high)), early (from + k) new.fired new.position (omega (arith, here, high, other, on.1)), on.0)
    raised from many fits place here (inr ends) k within =
        dite (ℕ_discrete k place)
        (λ same. rw (eq-eqb k place same) (omega (arith, early (from + k) q.fired q.position (omega (arith, here, same)), early (from + k) new.fired new.position (omega (arith, ends.1)), ends.0)))
        (λ other. rw (ne_eqb k place other) (omega (arith, late (from + k) q.fired q.position (omega (arith, here, other, within, ends.2, fits)), early (from + k) new.fired new.position (omega (arith, ends.1)), ends.0)))

    -- a take raises one count, and a put the other
    taken_one : (i : ℕ) → i < I → q.position ≡ takes_from I J + i → Went → Taken m st v (one_at i) × Put m st v none
    taken_one i h e went = (raised (takes_from I J) I (omega arith) i e went, put_none went)
      where
        put_none : Went → Put m st v none
        put_none (inl on) k within = omega (arith, put_early m v q k (omega (arith, e, h)), put_early m v new k (omega (arith, e, h, on.1)), on.0)
        put_none (inr ends) k within = absurd (omega (arith, within, ends.2, e, h))

    put_one : (j : ℕ) → j < J → q.position ≡ puts_from I J + j → Went → Taken m st v none × Put m st v (one_at j)
    put_one j h e went = (taken_none went, raised (puts_from I J) J (omega arith) j e went)
      where
        taken_none : Went → Taken m st v none
        taken_none (inl on) k within = omega (arith, taken_late m v q k (omega (arith, e, within)), taken_late m v new k (omega (arith, e, on.1, within)), on.0)
        taken_none (inr ends) k within = omega (arith, taken_late m v q k (omega (arith, e, within)), taken_early m v new k (omega (arith, ends.1)), ends.0)

    abbrev Moved : Type 0
    Moved = ((new ≡ on m v q) × (q.position + 1 ≢ ends_at I J)) ⊎ ((new ≡ once_more m v q) × (q.position + 1 ≡ ends_at I J))

    numbers : Moved → Went
    numbers (inl e) = inl (ap (λ (x : Progress). x.fired) e.0, ap (λ (x : Progress). x.position) e.0)
    numbers (inr e) = inr (ap (λ (x : Progress). x.fired) e.0, ap (λ (x : Progress). x.position) e.0, e.1)

    takes_one : (i : ℕ) → i < I → q.position ≡ takes_from I J + i → Moved → Effect
    takes_one i h e moved =
        let counts = taken_one i h e (numbers moved) in
        took i h e moved (out_one m st v i h counts.0) (in_same m st v counts.1)

    puts_one : (j : ℕ) → j < J → q.position ≡ puts_from I J + j → Moved → Effect
    puts_one j h e moved =
        let counts = put_one j h e (numbers moved) in
        gave j h e moved (out_same m st v counts.0) (in_one m st v j h counts.1)

    by_act : At I J q.position → IsWithin m st v → Effect
    by_act (at_in i h e) within = look_in i h e (finds m st v) refl (sym (ap (finds_at m st v) (ap (act_of m v) e ∙ act_in I J i h)))
    by_act (at_out j h e) within = look_out j h e (finds m st v) refl (sym (ap (finds_at m st v) (act_out I J j q.position e h)))
    by_act (at_take i h e) within = takes_one i h e
        (dite (ℕ_discrete (q.position + 1) (ends_at I J))
        (λ ends. inr (new_is _ refl ∙ after_last_take m v q i _ h e below ends, ends))
        (λ more. inl (new_is _ refl ∙ after_take m v q i _ h e below more, more)))
    by_act (at_put j h e) within = puts_one j h e
        (dite (ℕ_discrete (q.position + 1) (ends_at I J))
        (λ ends. inr (new_is _ refl ∙ after_last_put m v q j _ h e below ends, ends))
        (λ more. inl (new_is _ refl ∙ after_put m v q j _ h e below more, more)))
    by_act (at_end h) within =
        let alone_is : new ≡ once_more m v q = new_is _ refl ∙ after_alone m v q _ h below in
        alone h alone_is (quiet_by (λ i less. absurd (omega (arith, less, h, stays within))) (λ j less. absurd (omega (arith, less, h, stays within))))
      where
        stays : IsWithin m st v → ends_at I J ≤ 0
        stays within = dite (ℕ_discrete q.position 0) (λ rests. omega (arith, h, rests)) (λ begun. absurd (omega (arith, h, within.inside (omega (arith, begun)))))

  pub outcome : IsWithin m st v → Outcome
  outcome within = dite (ℕ_discrete q.fired (cap m v)) (λ done_all. at_cap (finds m st v) refl done_all) (λ below. acts below (by_act below (at I J q.position) within))
