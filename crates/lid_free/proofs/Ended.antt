-- How a run ends that was gathered and settled.
use Rattle.std.proofs.Common.{◌≡◌, ℕ, zero, suc, ◌+◌, ◌-◌, ◌*◌, ◌<◌, ◌≤◌, nat_lt, inl, inr, Bool, true, false, cond, List, [], ◌∷◌, length, map, get_or, refl, sym, ◌∙◌, ap, subst, arith, eq-eqb, le-ltb}
use Rattle.std.specs.Prelude.{Some, slice_get}
use Rattle.std.specs.List.{sum_by}
use Rattle.std.proofs.Math.Nat.{zero-mul}
use Rattle.std.proofs.lemmas.Bool.{cases_lt}
use Rattle.std.proofs.lemmas.Option.{same_Some, slice_get-get_or}
use Rattle.lid_base.specs.declared.runs.Tally.{Tally}
use Rattle.lid_station.specs.declared.pair.Pair.{Pair}
use Rattle.lid_shell_laws.specs.Runs.{place_in}
use Rattle.lid_stations.proofs.Spots.{stands_between}
use Rattle.lid_walk_machine.specs.Plans.{actors_of, stations_of, sink, ins_of, outs_of, drainer_of, filler_of, cap, start_of}
use Rattle.lid_walk_machine.specs.Setups.{plan, output_rows}
use Rattle.lid_shell_laws.specs.Setups.{Setup, IsSetup}
use Rattle.lid_walk_machine.specs.Machine.{Progress, State, begun, takes_from, puts_from, taken_by, in_count, out_count, sweeps}
use Rattle.lid_walk_machine.proofs.Sweeps.{many, settles}
use Rattle.lid_walk_machine.proofs.Sound.{sound_begun}
use Rattle.lid_shell.specs.declared.actor.Actor.{Actor}
use Rattle.lid_shell.specs.Parts.{AreColumnsAtSink}
use Rattle.lid_walk_machine.proofs.Counts.{early}
use Rattle.lid_walk.proofs.Turning.{as_far}
use Rattle.lid_walk.specs.declared.walk.Walk.{Walk}
use Rattle.lid_walk.proofs.Numbers.{sink_there}
use Rattle.lid_walk.proofs.Sweeping.{count, count_more}
use Rattle.lid_free_crew.specs.Tallies.{AddsUp, sum_below}
use Rattle.lid_free_crew.specs.Nothing.{no_turns}
use Rattle.lid_free_crew.specs.Shares.{numbers_of}
use Rattle.lid_free.specs.FreeRuns.{IsShareTally, FitStations, AreWithinRounds, FirstTurnsFire, AreSweeps, Finishes, IsNothing, IsFreeEnd, rounds_made, state_of_counts}
use Rattle.lid_free.specs.Gathering.{AreGathered}
use Rattle.lid_free.specs.Workers.{fired_of, CountsRun}
use Rattle.lid_free.specs.Endings.{IsEnding}
use Rattle.lid_free.specs.Sweeps.{HasSettled}
use Rattle.lid_free.specs.declared.ending.Sweeps.{Sweeps}
use Rattle.lid_free.specs.declared.run.FreeEnd.{FreeEnd}
use Rattle.lid_free.proofs.Resting.{counted_at}
use Rattle.lid_free.proofs.Settling.{count_add, list_count}
use Rattle.lid_free.proofs.Shares.{whole_sum}
use Rattle.std.proofs.lemmas.List.{length-map}
use Rattle.lid_base.proofs.Places.{item_at}

count_below : (f : ℕ → ℕ) (n : ℕ) → count f 0 n ≡ sum_below f n
count_below f zero = refl
count_below f (suc n) = let z : 0 + n ≡ n = omega arith in let same = ap f z in omega (arith, count_more f 0 n, count_below f n, same)

taken_read : (pairs : List Pair) (s : ℕ) (p : Pair) → slice_get pairs s ≡ Some p → get_or (map (λ (x : Pair). x.taken) pairs) s 0 ≡ p.taken
taken_read [] s p h = absurd (cc)
taken_read (x ∷ pairs) zero p h = ap (λ (y : Pair). y.taken) (same_Some x p h)
taken_read (x ∷ pairs) (suc s) p h = taken_read pairs s p h

module _ (m : Setup) (workers made : ℕ) (pairs : List Pair) (actors : List Actor) (tallies : List Tally) (g : AreGathered m workers made pairs actors tallies) where
  abbrev fired : List ℕ
  fired = fired_of actors

  abbrev passed : List ℕ
  passed = map (λ (p : Pair). p.taken) pairs

  abbrev st : State
  st = state_of_counts fired

  capped : (v : ℕ) → v < actors_of (plan m) → get_or fired v 0 ≤ cap (plan m) v
  capped v h = (g.sound.actors v h).capped

  -- the counts at a station of actors at rest
  out_is : (station : ℕ) → out_count (plan m) st station ≡ get_or fired (drainer_of (plan m) station) 0
  out_is station =
      let w = drainer_of (plan m) station in
      early (takes_from (length (ins_of (plan m) w)) (length (outs_of (plan m) w)) + place_in (ins_of (plan m) w) station) (get_or fired w 0) 0 (omega arith)

  in_is : (station : ℕ) → in_count (plan m) st station ≡ start_of (plan m) station + get_or fired (filler_of (plan m) station) 0
  in_is station =
      let u = filler_of (plan m) station in
      ap (λ (n : ℕ). start_of (plan m) station + n) (early (puts_from (length (ins_of (plan m) u)) (length (outs_of (plan m) u)) + place_in (outs_of (plan m) u) station) (get_or fired u 0) 0 (omega arith))

  passed_is : (station : ℕ) → station < stations_of (plan m) → get_or passed station 0 ≡ out_count (plan m) st station
  passed_is station h =
      let many_ = g.board.many in
      let (p, at_p) = item_at pairs station (omega (arith, h, many_)) in
      taken_read pairs station p at_p ∙ (counted_at m g.rules st pairs g.board station p h at_p).taken

  pub fit : FitStations (plan m) fired passed
  fit = record {
    capped = capped;
    drained = λ station h. passed_is station h ∙ out_is station;
    some = λ station h. let k = g.sound.stations station h in let p = passed_is station h in let i = in_is station in let o = k.ordered in omega arith;
    few = λ station h. let k = g.sound.stations station h in let p = passed_is station h in let i = in_is station in let o = k.few in omega arith;
  }

  pub alone_so : workers ≡ 1 → AreSweeps (plan m) made tallies fired passed
  alone_so one =
      let a = g.alone one in
      let after = (many m g.rules begun made (sound_begun m g.rules) (λ v h. refl)).0 in
      record {
        tally = a.tally;
        fired_are = a.fired_are;
        passed_are = λ station h.
            let w = drainer_of (plan m) station in
            let there = (stands_between m.system m.placement g.rules.system g.rules.fits station h).drained in
            passed_is station h
            ∙ ap (λ (q : Progress). taken_by (plan m) w q (place_in (ins_of (plan m) w) station)) (as_far (st w) (sweeps (plan m) begun made w) (a.fired_are w there) (sym (after.rest w there)));
      }

  module _ (s : Sweeps) (w : Walk) (settled : HasSettled m st s w) where
    abbrev last : State
    last = sweeps (plan m) st s.count

    sums : (0 < workers) → sum_by (λ (t : Tally). t.fired) tallies ≡ count (λ v. get_or fired v 0) 0 (actors_of (plan m))
    sums some =
        list_count (λ (t : Tally). t.fired) (λ i. sum_by (λ v. get_or fired v 0) (numbers_of workers i (actors_of (plan m)))) 0 tallies
        (λ i t at_t. let z : i ≡ 0 + i = omega arith in (g.tallies_are i t at_t).fired_are ∙ ap (λ (k : ℕ). sum_by (λ v. get_or fired v 0) (numbers_of workers k (actors_of (plan m)))) z)
        ∙ ap (count (λ i. sum_by (λ v. get_or fired v 0) (numbers_of workers i (actors_of (plan m)))) 0) g.tallies_many
        ∙ count_below (λ i. sum_by (λ v. get_or fired v 0) (numbers_of workers i (actors_of (plan m)))) workers
        ∙ whole_sum (λ v. get_or fired v 0) workers (actors_of (plan m)) some
        ∙ sym (count_below (λ v. get_or fired v 0) (actors_of (plan m)))

    pub finishes : 0 < workers → Finishes (plan m) tallies fired s.count s.fired
    finishes some = record {
      settled = settled.settled;
      not_before = settled.swept.not_before;
      all_fired =
          (let parts = count_add (λ v. get_or fired v 0) (λ v. (last v).fired - (st v).fired) (cap (plan m)) 0 (actors_of (plan m))
          (λ v low high. let h : v < actors_of (plan m) = omega (arith, high) in let c = capped v h in let d = settled.settled v h in omega (arith, c, d)) in
          let is = settled.swept.fired_are in
          omega (arith, sums some, parts, is, count_below (cap (plan m)) (actors_of (plan m))));
      settles = λ k at.
          elim (cases_lt k s.count) [
            | inl earlier ↦ absurd (settled.swept.not_before k earlier (settles m g.rules st k g.sound (λ v h. refl) at))
            | inr late ↦ late
          ];
      fires = settled.swept.fires;
    }

    -- the sink has given all rows
    sink_all : (last (sink (plan m))).fired ≡ length m.input
    sink_all =
        let least = g.rules.system.least in
        let e : (length m.system.nodes - 1) + 1 ≡ length m.system.nodes = omega arith in
        settled.settled (sink (plan m)) (sink_there m g.rules)
        ∙ ap (λ (b : Bool). cond b (length m.input - 1) (length m.input)) (le-ltb ((length m.system.nodes - 1) + 1) (length m.system.nodes) (omega (arith, e)))

    pub ending : (e : FreeEnd) → (AreColumnsAtSink m (sink (plan m)) e.rows.columns × (e.rows.bits ≡ output_rows m (last (sink (plan m))).fired))
        → e.tallies ≡ tallies → e.fired ≡ fired → e.passed ≡ passed → e.finish ≡ s.count → e.finish_fired ≡ s.fired → IsEnding m workers made e
    ending e rows_are t_is f_is p_is c_is n_is = record {
      columns = rows_are.0;
      rows = rows_are.1 ∙ ap (output_rows m) sink_all;
      tallies_many = ap length t_is ∙ g.tallies_many;
      fired_many = ap length f_is ∙ length-map actors (λ (a : Actor). a.desk.fired) ∙ g.actors_are.many;
      passed_many = ap length p_is ∙ length-map pairs (λ (p : Pair). p.taken) ∙ g.board.many;
      tallies_are = λ i t at_t. subst (λ (l : List ℕ). IsShareTally (plan m) workers made l i t) (sym f_is) (g.tallies_are i t (ap (λ (l : List Tally). slice_get l i) (sym t_is) ∙ at_t));
      fit = subst (λ (l : List ℕ). FitStations (plan m) l e.passed) (sym f_is) (subst (FitStations (plan m) fired) (sym p_is) fit);
      few = subst (AreWithinRounds (plan m) made) (sym f_is) g.few;
      first = λ some. subst (FirstTurnsFire (plan m)) (sym f_is) (g.first some);
      alone = λ one.
          subst (λ (l : List Tally). AreSweeps (plan m) made l e.fired e.passed) (sym t_is) (subst (λ (l : List ℕ). AreSweeps (plan m) made tallies l e.passed) (sym f_is) (subst (AreSweeps (plan m) made tallies fired) (sym p_is) (alone_so one)));
      finishes = λ some.
          subst (λ (l : List Tally). Finishes (plan m) l e.fired e.finish e.finish_fired) (sym t_is)
          (subst (λ (l : List ℕ). Finishes (plan m) tallies l e.finish e.finish_fired) (sym f_is)
          (subst (λ (n : ℕ). Finishes (plan m) tallies fired n e.finish_fired) (sym c_is) (subst (Finishes (plan m) tallies fired s.count) (sym n_is) (finishes some))));
      run = subst (λ (l : List Tally). CountsRun m workers made l e.fired) (sym t_is) (subst (CountsRun m workers made tallies) (sym f_is) g.run);
    }

-- without rows nothing is done
module _ (m : Setup) (workers rounds : ℕ) (e : FreeEnd) (rules : IsSetup m) (is : IsEnding m workers (rounds_made (plan m) rounds) e) (some : 0 < workers) where
  module _ (none : length m.input ≡ 0) where
    made_none : rounds_made (plan m) rounds ≡ 0
    made_none = ap (λ (b : Bool). cond b 0 rounds) (eq-eqb (length m.input) 0 none)

    cap_none : (v : ℕ) → cap (plan m) v ≡ 0
    cap_none v = by_node (nat_lt (v + 1) (length m.system.nodes))
      where
        by_node : (b : Bool) → cond b (length m.input - 1) (length m.input) ≡ 0
        by_node true = omega (arith, none)
        by_node false = none

    fired_none : (v : ℕ) → v < actors_of (plan m) → get_or e.fired v 0 ≡ 0
    fired_none v h = let c = is.fit.capped v h in let z = cap_none v in omega arith

    caps_none : (n : ℕ) → sum_below (cap (plan m)) n ≡ 0
    caps_none zero = refl
    caps_none (suc n) = let z = cap_none n in let later = caps_none n in omega (arith, z, later)

    get_same : (xs : List ℕ) (k d : ℕ) → k < length xs → get_or xs k d ≡ get_or xs k 0
    get_same [] k d within = absurd (omega (arith, within))
    get_same (x ∷ xs) zero d within = refl
    get_same (x ∷ xs) (suc k) d within = get_same xs k d (omega (arith, within))

    same_tally : (t : Tally) → t.turns ≡ 0 → AddsUp t → t ≡ no_turns
    same_tally t turns adds =
        let f : t.fired ≡ 0 = omega (arith, turns, adds) in
        let v : t.voids ≡ 0 = omega (arith, turns, adds) in
        let s : t.stops ≡ 0 = omega (arith, turns, adds) in
        let d : t.dones ≡ 0 = omega (arith, turns, adds) in
        λ k. record { turns = turns k; fired = f k; voids = v k; stops = s k; dones = d k }

    pub nothing : IsNothing e
    nothing =
        let f = is.finishes some in
        let all = caps_none (actors_of (plan m)) in
        let whole = f.all_fired in
        let fires = f.fires in
        record {
          tallies_none = λ k d within.
              let t = is.tallies_are k (get_or e.tallies k d) (slice_get-get_or e.tallies k d within) in
              same_tally (get_or e.tallies k d) (t.turns_are ∙ ap (λ (n : ℕ). n * length (numbers_of workers k (actors_of (plan m)))) made_none ∙ zero-mul (length (numbers_of workers k (actors_of (plan m))))) t.adds_up;
          fired_none = λ k d within. get_same e.fired k d within ∙ fired_none k (let n = is.fired_many in omega (arith, within, n));
          passed_none = λ k d within.
              let n = is.passed_many in
              let h : k < stations_of (plan m) = omega (arith, within, n) in
              get_same e.passed k d within ∙ is.fit.drained k h ∙ fired_none (drainer_of (plan m) k) (stands_between m.system m.placement rules.system rules.fits k h).drained;
          finish_none = omega (arith, all, whole, fires);
          finish_fired_none = omega (arith, all, whole);
        }

  pub free_end : IsFreeEnd m workers rounds e
  free_end = record {
    columns = is.columns;
    rows = is.rows;
    lawful = record {
      tallies_many = is.tallies_many;
      fired_many = is.fired_many;
      passed_many = is.passed_many;
      tallies_are = is.tallies_are;
      fit = is.fit;
      few = is.few;
      first = is.first;
      alone = is.alone;
      finishes = is.finishes some;
      nothing = nothing;
    };
    run = is.run;
  }
