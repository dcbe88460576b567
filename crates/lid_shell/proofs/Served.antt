-- A board that serves both ends of all stations of an actor by a state serves them by the next one.
use Rattle.std.proofs.Common.{◌≡◌, ℕ, ◌+◌, ◌*◌, ◌<◌, inl, inr, sym, ◌∙◌, ap, subst, arith}
use Rattle.std.specs.Prelude.{Option, Some, slice_get}
use Rattle.std.proofs.lemmas.Bool.{cases_eq}
use Rattle.lid_stations.specs.Placements.{links_of}
use Rattle.lid_shell_laws.proofs.Ends.{drained_is, filled_is, drained_there, filled_there, drained_place, filled_place}
use Rattle.lid_station.specs.Boards.{Ends, fill, drain}
use Rattle.lid_walk_machine.specs.Plans.{ins_of, outs_of, start_of, stations_of, drainer_of, filler_of}
use Rattle.lid_walk_machine.specs.Setups.{plan}
use Rattle.lid_shell_laws.specs.Setups.{Setup}
use Rattle.lid_walk_machine.specs.Machine.{Progress, State, taken_by, put_by, in_count, out_count}
use Rattle.lid_shell_laws.specs.Runs.{place_in}
use Rattle.lid_shell.specs.Boards.{IsEndWith, Agrees, ServesBoth, ServesAll}
use Rattle.lid_shell.specs.Steps.{IsOwn, Moves}

-- an end of a station that the actor does not fill, and of one that it does not drain, is none of its own
fill_apart : (m : Setup) (v station : ℕ) → (filler_of (plan m) station ≡ v → ⊥) → IsOwn (ins_of (plan m) v) (outs_of (plan m) v) (fill station) → ⊥
fill_apart m v station apart own =
    elim own.2 [
      | inl h ↦ (let odd : 2 * station ≡ 2 * own.0 + 1 = h.1 in omega arith)
      | inr h ↦
          (let doubled : 2 * station ≡ 2 * own.0 = h.1 in
          let same : own.0 ≡ station = omega arith in
          apart (filled_is (links_of m.system) m.placement v own.1 station (subst (λ (s : ℕ). slice_get (outs_of (plan m) v) own.1 ≡ Some s) same h.0)).1)
    ]

drain_apart : (m : Setup) (v station : ℕ) → (drainer_of (plan m) station ≡ v → ⊥) → IsOwn (ins_of (plan m) v) (outs_of (plan m) v) (drain station) → ⊥
drain_apart m v station apart own =
    elim own.2 [
      | inl h ↦
          (let doubled : 2 * station + 1 ≡ 2 * own.0 + 1 = h.1 in
          let same : own.0 ≡ station = omega arith in
          apart (drained_is (links_of m.system) m.placement v own.1 station (subst (λ (s : ℕ). slice_get (ins_of (plan m) v) own.1 ≡ Some s) same h.0)).1)
      | inr h ↦ (let odd : 2 * station + 1 ≡ 2 * own.0 = h.1 in omega arith)
    ]

-- an end of an actor, which alone may have moved there
end_on : (m : Setup) (v who : ℕ) (old now : State) (missed : Option ℕ) (ends new : Ends) (end : ℕ) (count : Progress → ℕ) → ((w : ℕ) → (w ≡ v → ⊥) → now w ≡ old w) → Moves (ins_of (plan m) v) (outs_of (plan m) v) missed ends new
    → (who ≡ v → IsEndWith new end (λ f. f.passed ≡ count (now who))) → ((who ≡ v → ⊥) → IsOwn (ins_of (plan m) v) (outs_of (plan m) v) end → ⊥)
    → IsEndWith ends end (λ f. f.passed ≡ count (old who)) → IsEndWith new end (λ f. f.passed ≡ count (now who))
end_on m v who old now missed ends new end count others moves own apart served =
    elim (cases_eq who v) [
      | inl same ↦ own same
      | inr other ↦ (served.0, moves.others end (apart other) ∙ served.1, served.2 ∙ ap count (sym (others who other)))
    ]

-- the two ends of a station
filled_on : (m : Setup) (v station : ℕ) (old now : State) (missed : Option ℕ) (ends new : Ends) → ((w : ℕ) → (w ≡ v → ⊥) → now w ≡ old w) → Agrees m v (now v) new → Moves (ins_of (plan m) v) (outs_of (plan m) v) missed ends new → station < stations_of (plan m)
    → ServesBoth m old ends station → IsEndWith new (fill station) (λ f. f.passed ≡ in_count (plan m) now station)
filled_on m v station old now missed ends new others agrees moves there serves =
    let who : ℕ = filler_of (plan m) station in
    end_on m v who old now missed ends new (fill station) (λ p. start_of (plan m) station + put_by (plan m) who p (place_in (outs_of (plan m) who) station)) others moves
    (λ own.
    let at = filled_there (links_of m.system) m.placement v station there own in
    let had = agrees.fills at.0 station at.1 in
    let place = filled_place (links_of m.system) m.placement v at.0 station at.1 in (
      had.0,
      had.1,
      had.2.passed
          ∙ ap (λ (n : ℕ). start_of (plan m) station + put_by (plan m) v (now v) n) (sym place)
          ∙ ap (λ (w : ℕ). start_of (plan m) station + put_by (plan m) w (now w) (place_in (outs_of (plan m) w) station)) (sym own),
    ))
    (fill_apart m v station) serves.filled

drained_on : (m : Setup) (v station : ℕ) (old now : State) (missed : Option ℕ) (ends new : Ends) → ((w : ℕ) → (w ≡ v → ⊥) → now w ≡ old w) → Agrees m v (now v) new → Moves (ins_of (plan m) v) (outs_of (plan m) v) missed ends new → station < stations_of (plan m)
    → ServesBoth m old ends station → IsEndWith new (drain station) (λ f. f.passed ≡ out_count (plan m) now station)
drained_on m v station old now missed ends new others agrees moves there serves =
    let who : ℕ = drainer_of (plan m) station in
    end_on m v who old now missed ends new (drain station) (λ p. taken_by (plan m) who p (place_in (ins_of (plan m) who) station)) others moves
    (λ own.
    let at = drained_there (links_of m.system) m.placement v station there own in
    let had = agrees.drains at.0 station at.1 in
    let place = drained_place (links_of m.system) m.placement v at.0 station at.1 in (
      had.0,
      had.1,
      had.2.passed
          ∙ ap (taken_by (plan m) v (now v)) (sym place)
          ∙ ap (λ (w : ℕ). taken_by (plan m) w (now w) (place_in (ins_of (plan m) w) station)) (sym own),
    ))
    (drain_apart m v station) serves.drained

-- all its stations
pub serves_on : (m : Setup) (v : ℕ) (old now : State) (missed : Option ℕ) (ends new : Ends) → ((w : ℕ) → (w ≡ v → ⊥) → now w ≡ old w) → Agrees m v (now v) new → Moves (ins_of (plan m) v) (outs_of (plan m) v) missed ends new
    → ServesAll m old v ends → ServesAll m now v new
serves_on m v old now missed ends new others agrees moves serves =
    record {
      ins = λ i station at.
          let there = (drained_is (links_of m.system) m.placement v i station at).0 in
          record {
            filled = filled_on m v station old now missed ends new others agrees moves there (serves.ins i station at);
            drained = drained_on m v station old now missed ends new others agrees moves there (serves.ins i station at);
          };
      outs = λ j station at.
          let there = (filled_is (links_of m.system) m.placement v j station at).0 in
          record {
            filled = filled_on m v station old now missed ends new others agrees moves there (serves.outs j station at);
            drained = drained_on m v station old now missed ends new others agrees moves there (serves.outs j station at);
          };
    }
