-- Sweeps: each takes every actor a cycle further than the clocked run in which nobody is held.
use Rattle.std.proofs.Common.{◌≡◌, ℕ, zero, suc, ◌+◌, ◌*◌, ◌<◌, ◌≤◌, ◌⊎◌, inl, inr, length, refl, sym, ◌∙◌, ap, subst, arith}
use mathlib.Core.Logic.{dite}
use native.Mathlib.Decide.{ℕ_discrete}
use Rattle.lid_graph.specs.declared.graph.Graph.{Graph}
use Rattle.lid_graph.specs.Firings.{Counts, no_hold, firings}
use Rattle.lid_graph.proofs.Counting.{firings_cap}
use Rattle.lid_graph_laws.proofs.Rising.{rises_by_one}
use Rattle.lid_graph_laws.proofs.Alive.{tokens_reach_caps}
use Rattle.lid_stations.specs.Markings.{marking}
use Rattle.lid_stations.proofs.Edges.{node_count}
use Rattle.lid_stations.proofs.Alive.{rateable, have_tokens}
use Rattle.lid_stations.proofs.Spots.{stands_between, cap_range}
use Rattle.lid_shell_laws.specs.Runs.{fired_in}
use Rattle.lid_shell_laws.proofs.Caps.{cap_about, caps_fit, start_small}
use Rattle.lid_shell_laws.proofs.Turns.{drains_no_more, fills_no_more, comes_to}
use Rattle.lid_walk_machine.specs.Plans.{Plan, actors_of, stations_of, ins_of, outs_of, drainer_of, filler_of, cap, start_of}
use Rattle.lid_walk_machine.specs.Setups.{plan}
use Rattle.lid_shell_laws.specs.Setups.{Setup, IsSetup}
use Rattle.lid_walk_machine.specs.Machine.{Progress, State, takes_from, in_at, out_at, in_count, out_count, turn, turns_from, sweep, IsSettled, sweeps}
use Rattle.lid_walk_machine.specs.Laws.{IsSound, AllRest, HaveFired, HasSwept}
use Rattle.lid_walk_machine.proofs.Places.{drains_at, fills_at, drained_at, filled_at}
use Rattle.lid_walk_machine.proofs.Steps.{taken_early, put_early}
use Rattle.lid_walk_machine.proofs.Moves.{out_here, in_here}
use Rattle.lid_walk_machine.proofs.Turns.{Bar, capped, empty, full, turn_rests, has_turned}

module _ (x : Setup) (rules : IsSetup x) where
  abbrev m : Plan
  m = plan x

  abbrev g : Graph
  g = marking m.links m.placement

  abbrev caps : Counts
  caps = cap m

  -- how often actor v has fired after k cycles of the clocked run
  abbrev F : ℕ → Counts
  F k = fired_in m.links m.placement m.rows no_hold k

  no_rows : (k v : ℕ) → m.rows ≡ 0 → F k v ≡ 0
  no_rows k v none = omega (arith, none, firings_cap g caps no_hold k v, (cap_about x.system m.rows v).0)

  not_above : (k v : ℕ) → F k v ≤ cap m v
  not_above k v = firings_cap g caps no_hold k v

  by_one : (k v : ℕ) → v < actors_of m → F (suc k) v ≤ F k v + 1
  by_one k v h = rises_by_one g caps no_hold (rateable x.system x.placement rules.system rules.fits).paired k v (omega (arith, h, node_count x.system x.placement))

  -- actors at rest have taken and put a token for each firing
  module _ (st : State) (rest : AllRest m st) where
    rested_out : (station : ℕ) → station < stations_of m → out_count m st station ≡ (st (drainer_of m station)).fired
    rested_out station h =
        let between = stands_between x.system x.placement rules.system rules.fits station h in
        let at_rest = rest (drainer_of m station) between.drained in
        let d = drained_at m station h in
        out_here m st (drainer_of m station) st (drainer_of m station) d.0 station d.1 ∙ taken_early m (drainer_of m station) (st (drainer_of m station)) d.0 (omega (arith, at_rest))

    rested_in : (station : ℕ) → station < stations_of m → in_count m st station ≡ start_of m station + (st (filler_of m station)).fired
    rested_in station h =
        let between = stands_between x.system x.placement rules.system rules.fits station h in
        let at_rest = rest (filler_of m station) between.filled in
        let f = filled_at m station h in
        let early = put_early m (filler_of m station) (st (filler_of m station)) f.0 (omega (arith, at_rest)) in
        omega (arith, in_here m st (filler_of m station) st (filler_of m station) f.0 station f.1, early)

    -- what bars an actor of a state that keeps up bars it in the next cycle
    barred : (k v : ℕ) → v < actors_of m → HaveFired m st k → Bar m v st → F (suc k) v ≤ (st v).fired
    barred k v h up (capped is) = omega (arith, is, not_above (suc k) v)
    barred k v h up (empty i within is) =
        let d = drains_at m v i within in
        let station = in_at m v i in
        let between = stands_between x.system x.placement rules.system rules.fits station d.there in
        let most = drains_no_more x.system x.placement rules.system rules.fits m.rows (F k) v station d.there d.drainer in
        let now = comes_to x.system x.placement rules.system rules.fits m.rows no_hold k v refl in
        let filled = up (filler_of m station) between.filled in
        let small = start_small x.system x.placement rules.system rules.fits station in
        let mine : (st (drainer_of m station)).fired ≡ (st v).fired = ap (λ (w : ℕ). (st w).fired) d.drainer in
        dite (ℕ_discrete m.rows 0)
        (λ none. omega (arith, no_rows (suc k) v none))
        (λ some. omega (arith, some, most, now, filled, small, is, rested_out station d.there, rested_in station d.there, mine))
    barred k v h up (full j within is) =
        let f = fills_at m v j within in
        let station = out_at m v j in
        let between = stands_between x.system x.placement rules.system rules.fits station f.there in
        let most = fills_no_more x.system x.placement rules.system rules.fits m.rows (F k) v station f.there f.filler in
        let now = comes_to x.system x.placement rules.system rules.fits m.rows no_hold k v refl in
        let drained = up (drainer_of m station) between.drained in
        let small = start_small x.system x.placement rules.system rules.fits station in
        let room = (cap_range x.system x.placement rules.system rules.fits station f.there).0 in
        let mine : (st (filler_of m station)).fired ≡ (st v).fired = ap (λ (w : ℕ). (st w).fired) f.filler in
        omega (arith, most, now, drained, small, room, is, rested_out station f.there, rested_in station f.there, mine)

  -- a turn takes its actor a cycle further
  turn_keeps_up : (st : State) (k v : ℕ) → IsSound m st → AllRest m st → v < actors_of m → HaveFired m st k → F (suc k) v ≤ (turn m st v v).fired
  turn_keeps_up st k v sound rest h up = by_fired (turn_rests x rules v h st sound).fired
    where
      last : State
      last = turn m st v

      by_fired : ((last v).fired ≡ (st v).fired + 1) ⊎ (((last v).fired ≡ (st v).fired) × ((st v).position ≤ takes_from (length (ins_of m v)) (length (outs_of m v))) × Bar m v st) → F (suc k) v ≤ (last v).fired
      by_fired (inl is) = omega (arith, is, up v h, by_one k v h)
      by_fired (inr is) = omega (arith, is.0, barred st rest k v h up is.2)

  rest_after : (st : State) (v : ℕ) → v < actors_of m → IsSound m st → AllRest m st → AllRest m (turn m st v)
  rest_after st v h sound rest w there =
      let turned = has_turned x rules v h st sound in
      dite (ℕ_discrete w v)
      (λ same. ap (λ (u : ℕ). (turn m st v u).position) same ∙ turned.rests)
      (λ other. ap (λ (p : Progress). p.position) (turned.others w other) ∙ rest w there)

  fired_after : (st : State) (v w : ℕ) → v < actors_of m → IsSound m st → (st w).fired ≤ (turn m st v w).fired
  fired_after st v w h sound =
      let turned = has_turned x rules v h st sound in
      dite (ℕ_discrete w v)
      (λ same. subst (λ (u : ℕ). (st u).fired ≤ (turn m st v u).fired) (sym same) turned.goes_on)
      (λ other. omega (arith, ap (λ (p : Progress). p.fired) (turned.others w other)))

  -- the turns of the actors from v on
  pub record Turns (v left : ℕ) (old new : State) : Type 0 where
    pub sound : IsSound m new
    pub rest : AllRest m new
    pub goes_on : (w : ℕ) → (old w).fired ≤ (new w).fired
    pub up : (k : ℕ) → HaveFired m old k → ((w : ℕ) → w < v → F (suc k) w ≤ (old w).fired) → (w : ℕ) → w < v + left → F (suc k) w ≤ (new w).fired

  turns : (v left : ℕ) (st : State) → v + left ≤ actors_of m → IsSound m st → AllRest m st → Turns v left st (turns_from m v left st)
  unfolding turns_from
  turns v zero st h sound rest = record {
    sound = sound;
    rest = rest;
    goes_on = λ w. omega arith;
    up = λ k up before w less. before w (omega (arith, less));
  }
  turns v (suc left) st h sound rest =
      let there : v < actors_of m = omega (arith, h) in
      let turned = has_turned x rules v there st sound in
      let later = turns (suc v) left (turn m st v) (omega (arith, h)) turned.sound (rest_after st v there sound rest) in
      record {
        sound = later.sound;
        rest = later.rest;
        goes_on = λ w. omega (arith, fired_after st v w there sound, later.goes_on w);
        up = λ k up before w less.
            later.up k (λ u within. omega (arith, up u within, fired_after st v u there sound))
            (λ u below. dite (ℕ_discrete u v)
            (λ same. subst (λ (y : ℕ). F (suc k) y ≤ (turn m st v y).fired) (sym same) (turn_keeps_up st k v sound rest there up))
            (λ other. omega (arith, before u (omega (arith, below, other)), fired_after st v u there sound)))
            w (omega (arith, less));
      }

  module _ (st : State) (sound : IsSound m st) (rest : AllRest m st) where
    swept : Turns 0 (actors_of m) st (sweep m st)
    swept = turns 0 (actors_of m) st (omega arith) sound rest

    pub has_swept : HasSwept m st (sweep m st)
    has_swept = record { sound = swept.sound; rest = swept.rest; goes_on = λ v h. swept.goes_on v }

    pub keeps_up : (k : ℕ) → HaveFired m st k → HaveFired m (sweep m st) (suc k)
    keeps_up k up v h = swept.up k up (λ w less. absurd (omega (arith, less))) v (omega (arith, h))

    pub at_first : HaveFired m st 0
    unfolding firings
    at_first v h = omega arith

    -- where no actor fires in a sweep, each has fired as often as after any number of cycles
    idle : ((v : ℕ) → v < actors_of m → (sweep m st v).fired ≡ (st v).fired) → (k : ℕ) → HaveFired m st k
    idle none zero v h = at_first v h
    idle none (suc k) v h = omega (arith, none v h, keeps_up k (idle none k) v h)

    pub idle_settled : ((v : ℕ) → v < actors_of m → (sweep m st v).fired ≡ (st v).fired) → IsSettled m st
    idle_settled none v h =
        let enough = tokens_reach_caps g caps (g.nodes * cap m v) v (rateable x.system x.placement rules.system rules.fits).paired (caps_fit x.system x.placement rules.system rules.fits m.rows) (have_tokens x.system x.placement rules.system rules.fits)
        (omega (arith, h, node_count x.system x.placement)) (omega arith) in
        omega (arith, enough, idle none (g.nodes * cap m v) v h, (sound.actors v h).capped)

  pub many : (st : State) (k : ℕ) → IsSound m st → AllRest m st → HasSwept m st (sweeps m st k) × HaveFired m (sweeps m st k) k
  many st zero sound rest = (record { sound = sound; rest = rest; goes_on = λ v h. omega arith }, at_first st sound rest)
  many st (suc k) sound rest =
      let before = many st k sound rest in
      let more = has_swept (sweeps m st k) before.0.sound before.0.rest in (
        record { sound = more.sound; rest = more.rest; goes_on = λ v h. omega (arith, before.0.goes_on v h, more.goes_on v h) },
        keeps_up (sweeps m st k) before.0.sound before.0.rest k before.1,
      )

  pub settles : (st : State) (k : ℕ) → IsSound m st → AllRest m st → ((v : ℕ) → v < actors_of m → F k v ≡ cap m v) → IsSettled m (sweeps m st k)
  settles st k sound rest at v h =
      let after = many st k sound rest in
      omega (arith, at v h, after.1 v h, (after.0.sound.actors v h).capped)
