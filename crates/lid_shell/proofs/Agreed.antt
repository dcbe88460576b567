-- A board agrees with an actor after each of its acts.
use Rattle.std.proofs.Common.{◌≡◌, ℕ, ◌+◌, ◌*◌, ◌<◌, ◌≤◌, inl, inr, Bool, true, List, length, refl, sym, ◌∙◌, ap, subst, arith}
use Rattle.std.specs.Prelude.{Some, slice_get}
use Rattle.std.proofs.lemmas.Bool.{cases_eq, cases_lt}
use Rattle.std.proofs.lemmas.Option.{same_Some, slice_get_within}
use Rattle.lid_stations.specs.Placements.{links_of}
use Rattle.lid_shell_laws.specs.Runs.{place_in}
use Rattle.lid_shell_laws.proofs.Ends.{drained_place, filled_place}
use Rattle.lid_station.specs.Boards.{Facts, Ends, Changes, fill, drain, missed, marked, advanced}
use Rattle.lid_walk_machine.specs.Plans.{ins_of, outs_of, start_of}
use Rattle.lid_walk_machine.specs.Setups.{plan}
use Rattle.lid_shell_laws.specs.Setups.{Setup}
use Rattle.lid_walk_machine.specs.Machine.{Progress, takes_from, puts_from, ends_at}
use Rattle.lid_shell.specs.Boards.{IsEndWith, IsDrainedBy, IsFilledBy, Agrees}
use Rattle.lid_shell.specs.Inside.{further, set_back, closed}
use Rattle.lid_walk_machine.proofs.Counts.{early, late, alike}
use Rattle.lid_shell.proofs.Changed.{here, elsewhere}

-- what is known of the drained stations stays, where no place of a firing is passed at which it would change
abbrev StaysDrained : Setup → ℕ → Progress → Progress → ℕ → Type 0
StaysDrained m v q new i = (other : ℕ) (f : Facts) → IsDrainedBy m v q i other f → IsDrainedBy m v new i other f

abbrev StaysFilled : Setup → ℕ → Progress → Progress → ℕ → Type 0
StaysFilled m v q new j = (other : ℕ) (f : Facts) → IsFilledBy m v q j other f → IsFilledBy m v new j other f

-- a station that stands at one place stands at no other
once : (xs : List ℕ) → ((i station : ℕ) → slice_get xs i ≡ Some station → place_in xs station ≡ i) → (i k station : ℕ) → slice_get xs i ≡ Some station → slice_get xs k ≡ Some station → i ≡ k
once xs place i k station at there = sym (place i station at) ∙ place k station there

-- what is known of the end that changed, among the ends of one side of the actor
changed_at : (xs : List ℕ) (end : ℕ → ℕ) (Was Is : ℕ → ℕ → Facts → Type 0) (old ends : Ends) (k station : ℕ) (step : Facts → Facts)
    → IsEndWith old (end station) (Was k station) → slice_get xs k ≡ Some station → Changes old (end station) step ends
    → ((f : Facts) → Was k station f → Is k station (step f))
    → (i other : ℕ) → i ≡ k → slice_get xs i ≡ Some other → IsEndWith ends (end other) (Is i other)
changed_at xs end Was Is old ends k station step had at changes own i other same there =
    let now : IsEndWith ends (end station) (Is k station) = (step had.0, here old ends (end station) step had.0 changes had.1, own had.0 had.2) in
    let is : station ≡ other = same_Some station other (sym at ∙ subst (λ (n : ℕ). slice_get xs n ≡ Some other) same there) in
    subst (λ (n : ℕ). IsEndWith ends (end other) (Is n other)) (sym same)
    (subst (λ (s : ℕ). IsEndWith ends (end s) (Is k s)) is now)

-- and of one that did not
unchanged_at : (old ends : Ends) (end : ℕ) (step : Facts → Facts) (k : ℕ) (Was Is : Facts → Type 0) → Changes old end step ends → (k ≡ end → ⊥) → IsEndWith old k Was → ((f : Facts) → Was f → Is f) → IsEndWith ends k Is
unchanged_at old ends end step k Was Is changes apart had stays = (had.0, elsewhere old ends end step k changes apart ∙ had.1, stays had.0 had.2)

-- a change at a station that the actor drains
agrees_drained : (m : Setup) (v : ℕ) (q new : Progress) (old ends : Ends) (k station : ℕ) (step : Facts → Facts)
    → Agrees m v q old → slice_get (ins_of (plan m) v) k ≡ Some station → Changes old (drain station) step ends
    → ((f : Facts) → IsDrainedBy m v q k station f → IsDrainedBy m v new k station (step f))
    → ((i : ℕ) → (i ≡ k → ⊥) → i < length (ins_of (plan m) v) → StaysDrained m v q new i)
    → ((j : ℕ) → j < length (outs_of (plan m) v) → StaysFilled m v q new j)
    → Agrees m v new ends
agrees_drained m v q new old ends k station step agrees at changes own drains fills =
    record {
      drains = λ i other there.
          elim (cases_eq i k) [
            | inl same ↦ changed_at (ins_of (plan m) v) drain (IsDrainedBy m v q) (IsDrainedBy m v new) old ends k station step (agrees.drains k station at) at changes own i other same there
            | inr apart ↦
                unchanged_at old ends (drain station) step (drain other) (IsDrainedBy m v q i other) (IsDrainedBy m v new i other) changes
                (λ e. (let doubled : 2 * other + 1 ≡ 2 * station + 1 = e in let one : other ≡ station = omega arith in apart (once (ins_of (plan m) v) (drained_place (links_of m.system) m.placement v) i k other there (subst (λ (s : ℕ). slice_get (ins_of (plan m) v) k ≡ Some s) (sym one) at))))
                (agrees.drains i other there) (drains i apart (slice_get_within (ins_of (plan m) v) i other there) other)
          ];
      fills = λ j other there.
          unchanged_at old ends (drain station) step (fill other) (IsFilledBy m v q j other) (IsFilledBy m v new j other) changes
          (λ e. (let doubled : 2 * other ≡ 2 * station + 1 = e in omega arith))
          (agrees.fills j other there) (fills j (slice_get_within (outs_of (plan m) v) j other there) other);
    }

-- a change at a station that it fills
agrees_filled : (m : Setup) (v : ℕ) (q new : Progress) (old ends : Ends) (k station : ℕ) (step : Facts → Facts)
    → Agrees m v q old → slice_get (outs_of (plan m) v) k ≡ Some station → Changes old (fill station) step ends
    → ((f : Facts) → IsFilledBy m v q k station f → IsFilledBy m v new k station (step f))
    → ((i : ℕ) → i < length (ins_of (plan m) v) → StaysDrained m v q new i)
    → ((j : ℕ) → (j ≡ k → ⊥) → j < length (outs_of (plan m) v) → StaysFilled m v q new j)
    → Agrees m v new ends
agrees_filled m v q new old ends k station step agrees at changes own drains fills =
    record {
      drains = λ i other there.
          unchanged_at old ends (fill station) step (drain other) (IsDrainedBy m v q i other) (IsDrainedBy m v new i other) changes
          (λ e. (let doubled : 2 * other + 1 ≡ 2 * station = e in omega arith))
          (agrees.drains i other there) (drains i (slice_get_within (ins_of (plan m) v) i other there) other);
      fills = λ j other there.
          elim (cases_eq j k) [
            | inl same ↦ changed_at (outs_of (plan m) v) fill (IsFilledBy m v q) (IsFilledBy m v new) old ends k station step (agrees.fills k station at) at changes own j other same there
            | inr apart ↦
                unchanged_at old ends (fill station) step (fill other) (IsFilledBy m v q j other) (IsFilledBy m v new j other) changes
                (λ e. (let doubled : 2 * other ≡ 2 * station = e in let one : other ≡ station = omega arith in apart (once (outs_of (plan m) v) (filled_place (links_of m.system) m.placement v) j k other there (subst (λ (s : ℕ). slice_get (outs_of (plan m) v) k ≡ Some s) (sym one) at))))
                (agrees.fills j other there) (fills j apart (slice_get_within (outs_of (plan m) v) j other there) other)
          ];
    }

-- a mark between a look and its use stays where no look or use is passed
seen_stays : (from to old new : ℕ) (mark : Bool) → (to < old → to < new) → (from < new → new ≤ to → from < old) → (from < old → old ≤ to → mark ≡ true) → from < new → new ≤ to → mark ≡ true
seen_stays from to old new mark high looked seen after before =
    elim (cases_lt to old) [
      | inl past ↦ (let beyond : to < new = high past in absurd (omega arith))
      | inr not_past ↦ seen (looked after before) not_past
    ]

-- what was taken from a station stays so
drained_stays : (m : Setup) (v : ℕ) (q : Progress) (position i : ℕ)
    → (q.position ≤ takes_from (length (ins_of (plan m) v)) (length (outs_of (plan m) v)) + i → position ≤ takes_from (length (ins_of (plan m) v)) (length (outs_of (plan m) v)) + i)
    → (takes_from (length (ins_of (plan m) v)) (length (outs_of (plan m) v)) + i < q.position → takes_from (length (ins_of (plan m) v)) (length (outs_of (plan m) v)) + i < position)
    → (i < position → position ≤ takes_from (length (ins_of (plan m) v)) (length (outs_of (plan m) v)) + i → i < q.position)
    → StaysDrained m v q (record { fired = q.fired; position = position }) i
drained_stays m v q position i low high seen other f is =
    record {
      capacity = is.capacity;
      passed = is.passed ∙ alike (takes_from (length (ins_of (plan m) v)) (length (outs_of (plan m) v)) + i) q.fired q.position position low high;
      seen = seen_stays i (takes_from (length (ins_of (plan m) v)) (length (outs_of (plan m) v)) + i) q.position position f.mark high seen is.seen;
    }

filled_stays : (m : Setup) (v : ℕ) (q : Progress) (position j : ℕ)
    → (q.position ≤ puts_from (length (ins_of (plan m) v)) (length (outs_of (plan m) v)) + j → position ≤ puts_from (length (ins_of (plan m) v)) (length (outs_of (plan m) v)) + j)
    → (puts_from (length (ins_of (plan m) v)) (length (outs_of (plan m) v)) + j < q.position → puts_from (length (ins_of (plan m) v)) (length (outs_of (plan m) v)) + j < position)
    → (length (ins_of (plan m) v) + j < position → position ≤ puts_from (length (ins_of (plan m) v)) (length (outs_of (plan m) v)) + j → length (ins_of (plan m) v) + j < q.position)
    → StaysFilled m v q (record { fired = q.fired; position = position }) j
filled_stays m v q position j low high seen other f is =
    record {
      capacity = is.capacity;
      passed = is.passed ∙ ap (λ (n : ℕ). start_of (plan m) other + n) (alike (puts_from (length (ins_of (plan m) v)) (length (outs_of (plan m) v)) + j) q.fired q.position position low high);
      seen = seen_stays (length (ins_of (plan m) v) + j) (puts_from (length (ins_of (plan m) v)) (length (outs_of (plan m) v)) + j) q.position position f.mark high seen is.seen;
    }

-- a look finds a token
pub agrees_token : (m : Setup) (v : ℕ) (q : Progress) (old ends : Ends) (k station : ℕ) → Agrees m v q old → q.position ≡ k → slice_get (ins_of (plan m) v) k ≡ Some station
    → Changes old (drain station) marked ends → Agrees m v (further q) ends
agrees_token m v q old ends k station agrees here_is at changes =
    let within : k < length (ins_of (plan m) v) = slice_get_within (ins_of (plan m) v) k station at in
    agrees_drained m v q (further q) old ends k station marked agrees at changes
    (λ f is. record {
      capacity = is.capacity;
      passed = is.passed ∙ alike (takes_from (length (ins_of (plan m) v)) (length (outs_of (plan m) v)) + k) q.fired q.position (q.position + 1) (λ h. omega arith) (λ h. omega arith);
      seen = λ _ _. refl;
    })
    (λ i apart inside. drained_stays m v q (q.position + 1) i (λ h. omega arith) (λ h. omega arith) (λ h g. omega (arith, apart)))
    (λ j inside. filled_stays m v q (q.position + 1) j (λ h. omega arith) (λ h. omega arith) (λ h g. omega arith))

-- a look finds room
pub agrees_room : (m : Setup) (v : ℕ) (q : Progress) (old ends : Ends) (k station : ℕ) → Agrees m v q old → q.position ≡ length (ins_of (plan m) v) + k → slice_get (outs_of (plan m) v) k ≡ Some station
    → Changes old (fill station) marked ends → Agrees m v (further q) ends
agrees_room m v q old ends k station agrees here_is at changes =
    let within : k < length (outs_of (plan m) v) = slice_get_within (outs_of (plan m) v) k station at in
    agrees_filled m v q (further q) old ends k station marked agrees at changes
    (λ f is. record {
      capacity = is.capacity;
      passed = is.passed ∙ ap (λ (n : ℕ). start_of (plan m) station + n) (alike (puts_from (length (ins_of (plan m) v)) (length (outs_of (plan m) v)) + k) q.fired q.position (q.position + 1) (λ h. omega arith) (λ h. omega arith));
      seen = λ _ _. refl;
    })
    (λ i inside. drained_stays m v q (q.position + 1) i (λ h. omega arith) (λ h. omega arith) (λ h g. omega arith))
    (λ j apart inside. filled_stays m v q (q.position + 1) j (λ h. omega arith) (λ h. omega arith) (λ h g. omega (arith, apart)))

-- a look finds no token
pub agrees_void : (m : Setup) (v : ℕ) (q : Progress) (old ends : Ends) (k station : ℕ) → Agrees m v q old → q.position ≡ k → slice_get (ins_of (plan m) v) k ≡ Some station
    → Changes old (drain station) missed ends → Agrees m v (set_back q) ends
agrees_void m v q old ends k station agrees here_is at changes =
    let within : k < length (ins_of (plan m) v) = slice_get_within (ins_of (plan m) v) k station at in
    agrees_drained m v q (set_back q) old ends k station missed agrees at changes
    (λ f is. record {
      capacity = is.capacity;
      passed = is.passed ∙ alike (takes_from (length (ins_of (plan m) v)) (length (outs_of (plan m) v)) + k) q.fired q.position 0 (λ h. omega arith) (λ h. omega arith);
      seen = λ h g. absurd (omega arith);
    })
    (λ i apart inside. drained_stays m v q 0 i (λ h. omega arith) (λ h. omega arith) (λ h g. omega arith))
    (λ j inside. filled_stays m v q 0 j (λ h. omega arith) (λ h. omega arith) (λ h g. omega arith))

-- a look finds no room
pub agrees_stop : (m : Setup) (v : ℕ) (q : Progress) (old ends : Ends) (k station : ℕ) → Agrees m v q old → q.position ≡ length (ins_of (plan m) v) + k → slice_get (outs_of (plan m) v) k ≡ Some station
    → Changes old (fill station) missed ends → Agrees m v (set_back q) ends
agrees_stop m v q old ends k station agrees here_is at changes =
    let within : k < length (outs_of (plan m) v) = slice_get_within (outs_of (plan m) v) k station at in
    agrees_filled m v q (set_back q) old ends k station missed agrees at changes
    (λ f is. record {
      capacity = is.capacity;
      passed = is.passed ∙ ap (λ (n : ℕ). start_of (plan m) station + n) (alike (puts_from (length (ins_of (plan m) v)) (length (outs_of (plan m) v)) + k) q.fired q.position 0 (λ h. omega arith) (λ h. omega arith));
      seen = λ h g. absurd (omega arith);
    })
    (λ i inside. drained_stays m v q 0 i (λ h. omega arith) (λ h. omega arith) (λ h g. omega arith))
    (λ j apart inside. filled_stays m v q 0 j (λ h. omega arith) (λ h. omega arith) (λ h g. omega arith))

-- a token is taken
pub agrees_taken : (m : Setup) (v : ℕ) (q : Progress) (old ends : Ends) (k station : ℕ) → Agrees m v q old → q.position ≡ takes_from (length (ins_of (plan m) v)) (length (outs_of (plan m) v)) + k
    → slice_get (ins_of (plan m) v) k ≡ Some station → Changes old (drain station) advanced ends → Agrees m v (further q) ends
agrees_taken m v q old ends k station agrees here_is at changes =
    let within : k < length (ins_of (plan m) v) = slice_get_within (ins_of (plan m) v) k station at in
    agrees_drained m v q (further q) old ends k station advanced agrees at changes
    (λ f is.
    let was : f.passed ≡ q.fired = is.passed ∙ early (takes_from (length (ins_of (plan m) v)) (length (outs_of (plan m) v)) + k) q.fired q.position (omega arith) in
    record {
      capacity = is.capacity;
      passed = ap (λ (n : ℕ). n + 1) was ∙ sym (late (takes_from (length (ins_of (plan m) v)) (length (outs_of (plan m) v)) + k) q.fired (q.position + 1) (omega arith));
      seen = λ h g. absurd (omega arith);
    })
    (λ i apart inside. drained_stays m v q (q.position + 1) i (λ h. omega (arith, apart)) (λ h. omega arith) (λ h g. omega arith))
    (λ j inside. filled_stays m v q (q.position + 1) j (λ h. omega arith) (λ h. omega arith) (λ h g. omega arith))

-- a token is put
pub agrees_put : (m : Setup) (v : ℕ) (q : Progress) (old ends : Ends) (k station : ℕ) → Agrees m v q old → q.position ≡ puts_from (length (ins_of (plan m) v)) (length (outs_of (plan m) v)) + k
    → slice_get (outs_of (plan m) v) k ≡ Some station → Changes old (fill station) advanced ends → Agrees m v (further q) ends
agrees_put m v q old ends k station agrees here_is at changes =
    let within : k < length (outs_of (plan m) v) = slice_get_within (outs_of (plan m) v) k station at in
    agrees_filled m v q (further q) old ends k station advanced agrees at changes
    (λ f is.
    let was : f.passed ≡ start_of (plan m) station + q.fired = is.passed ∙ ap (λ (n : ℕ). start_of (plan m) station + n) (early (puts_from (length (ins_of (plan m) v)) (length (outs_of (plan m) v)) + k) q.fired q.position (omega arith)) in
    let goes = late (puts_from (length (ins_of (plan m) v)) (length (outs_of (plan m) v)) + k) q.fired (q.position + 1) (omega arith) in
    record {
      capacity = is.capacity;
      passed = (let sum : f.passed + 1 ≡ start_of (plan m) station + (q.fired + 1) = omega arith in sum) ∙ ap (λ (n : ℕ). start_of (plan m) station + n) (sym goes);
      seen = λ h g. absurd (omega arith);
    })
    (λ i inside. drained_stays m v q (q.position + 1) i (λ h. omega arith) (λ h. omega arith) (λ h g. omega arith))
    (λ j apart inside. filled_stays m v q (q.position + 1) j (λ h. omega (arith, apart)) (λ h. omega arith) (λ h g. omega arith))

-- a firing ends
pub agrees_closed : (m : Setup) (v : ℕ) (q : Progress) (ends : Ends) → Agrees m v q ends → q.position ≡ ends_at (length (ins_of (plan m) v)) (length (outs_of (plan m) v)) → Agrees m v (closed true q) ends
agrees_closed m v q ends agrees last =
    record {
      drains = λ i station at.
          let had = agrees.drains i station at in
          let within : i < length (ins_of (plan m) v) = slice_get_within (ins_of (plan m) v) i station at in (
            had.0,
            had.1,
            record {
              capacity = had.2.capacity;
              passed =
                  had.2.passed ∙ late (takes_from (length (ins_of (plan m) v)) (length (outs_of (plan m) v)) + i) q.fired q.position (omega arith)
                  ∙ sym (early (takes_from (length (ins_of (plan m) v)) (length (outs_of (plan m) v)) + i) (q.fired + 1) 0 (omega arith));
              seen = λ h g. absurd (omega arith);
            },
          );
      fills = λ j station at.
          let had = agrees.fills j station at in
          let within : j < length (outs_of (plan m) v) = slice_get_within (outs_of (plan m) v) j station at in (
            had.0,
            had.1,
            record {
              capacity = had.2.capacity;
              passed =
                  had.2.passed
                  ∙ ap (λ (n : ℕ). start_of (plan m) station + n)
                  (late (puts_from (length (ins_of (plan m) v)) (length (outs_of (plan m) v)) + j) q.fired q.position (omega arith)
                  ∙ sym (early (puts_from (length (ins_of (plan m) v)) (length (outs_of (plan m) v)) + j) (q.fired + 1) 0 (omega arith)));
              seen = λ h g. absurd (omega arith);
            },
          );
    }
