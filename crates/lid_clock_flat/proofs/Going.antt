-- A run goes on by a cycle: its stations have settled, and who sleeps is still barred.
use Rattle.std.proofs.Common.{◌≡◌, ℕ, suc, ◌+◌, ◌<◌, ◌≤◌, inl, inr, Bool, true, false, lt-ltb, List, length, get_or, refl, sym, ◌∙◌, ap, subst, arith}
use Rattle.std.specs.Prelude.{Some, slice_get}
use Rattle.std.proofs.lemmas.Option.{slice_get-get_or, slice_get_within, get_or_from_slice_get}
use Rattle.lid_base.proofs.Places.{item_at}
use Rattle.lid_stations.specs.Placements.{links_of}
use Rattle.lid_stations.specs.Stations.{filler, drainer}
use Rattle.lid_shell_laws.specs.Runs.{cap_of}
use Rattle.lid_clock.specs.declared.actor.ClockActor.{ClockActor}
use Rattle.lid_clock.specs.Rules.{RunsGoByRules}
use Rattle.lid_clock.specs.Lives.{Life, IsLife, fired_after, sink}
use Rattle.lid_clock.specs.States.{actors_of, stations_of, Decided}
use Rattle.lid_clock.proofs.Cycling.{latest}
use Rattle.lid_clock_flat.specs.declared.station.FlatStation.{FlatStation}
use Rattle.lid_clock_flat.specs.declared.run.FlatRun.{FlatRun}
use Rattle.lid_clock_flat.specs.Rings.{StationSettles}
use Rattle.lid_clock_flat.specs.Reads.{CanSettle, AllSettle}
use Rattle.lid_clock_flat.specs.Flats.{AreFlat, IsBarred}
use Rattle.lid_clock_flat.specs.Wakings.{AreAsleep, DecidedTo, KeepsRows}
use Rattle.lid_clock_flat.specs.Ends.{fired_before, SettledTo}
use Rattle.lid_clock_flat.specs.Runs.{FlatRan}
use Rattle.lid_clock_flat.proofs.Settled.{can_settle, all_flat}
use Rattle.lid_clock_flat.proofs.Ending.{before_by}
use borrow.Author.Clash.{clash}

module _ (r : RunsGoByRules) (l : Life) (k g : ℕ) (x new : FlatRun) (all : DecidedTo l k g (actors_of l) x) (to : SettledTo (length x.went.items) x new) where
  life : IsLife l
  life = all.begins.rules

  can : (s : ℕ) (a : FlatStation) → slice_get x.stations.all.items s ≡ Some a → CanSettle x.went.items a
  can s a at = can_settle r l k x.stations x.went.items life all.done s a at

  every : (v : ℕ) → v < length x.went.items → fired_before x.went.items (length x.went.items) v ≡ get_or x.went.items v false
  every v less = before_by x.went.items (length x.went.items) v true (lt-ltb v (length x.went.items) less)

  settles : AllSettle x.went.items x.stations.all.items new.stations.all.items
  settles = record {
    many = to.settles.many;
    each = λ s a b at there.
        subst (λ (w : Bool). StationSettles a w (get_or x.went.items a.drainer false) b) (every a.filler (can s a at).filled)
        (subst (λ (w : Bool). StationSettles a (fired_before x.went.items (length x.went.items) a.filler) w b) (every a.drainer (can s a at).drained) (to.settles.each s a b at there));
  }

  flat : AreFlat l (suc k) new.stations.all.items new.stations.places.items
  flat = subst (λ p. AreFlat l (suc k) new.stations.all.items p.items) (sym to.keeps.places) (all_flat r l k x.stations x.went.items life all.done new.stations.all.items settles)

  -- who sleeps after the cycle slept in it
  slept : (v : ℕ) → slice_get new.awake.items v ≡ Some false → slice_get x.awake.items v ≡ Some false
  slept v e =
      let low = slice_get_within new.awake.items v false e in
      let was = item_at x.awake.items v (omega (arith, to.wakes.long)) in
      by was.0 was.1
    where
      by : (b : Bool) → slice_get x.awake.items v ≡ Some b → slice_get x.awake.items v ≡ Some false
      by true at = clash (get_or new.awake.items v false) (to.wakes.grows v (get_or_from_slice_get x.awake.items v true false at)) (get_or_from_slice_get new.awake.items v false false e)
      by false at = at

  module _ (v : ℕ) (e : slice_get new.awake.items v ≡ Some false) where
    bar : IsBarred l k v
    bar = all.asleep.barred v (slept v e)

    there : v < actors_of l
    there = let low = slice_get_within x.awake.items v false (slept v e) in omega (arith, all.asleep.many)

    own : fired_after l (suc k) v ≡ fired_after l k v
    own = r.rests l.setup.system l.setup.placement (length l.setup.input) l.hold k v life.system life.fits there (inr bar)

    asleep_end : get_or new.awake.items v false ≡ false
    asleep_end = get_or_from_slice_get new.awake.items v false false e

    -- who shares a station with it did not fire
    rests_by : (u : ℕ) (b : Bool) → u < length x.went.items → get_or x.went.items u false ≡ b → (fired_before x.went.items (length x.went.items) u ≡ true → get_or new.awake.items v false ≡ true) → fired_after l (suc k) u ≡ fired_after l k u
    rests_by u true less is woken = clash (get_or new.awake.items v false) (woken (every u less ∙ is)) asleep_end
    rests_by u false less is woken =
        (all.done.chose u false (omega (arith, all.done.many)) (slice_get-get_or x.went.items u false less ∙ ap (λ (b : Bool). Some b) is)).rests refl

    filler_rests : (s : ℕ) → s < stations_of l → drainer (links_of l.setup.system) l.setup.placement s ≡ v
        → fired_after l (suc k) (filler (links_of l.setup.system) l.setup.placement s) ≡ fired_after l k (filler (links_of l.setup.system) l.setup.placement s)
    filler_rests s low drains =
        let a = item_at x.stations.all.items s (omega (arith, all.done.flat.many)) in
        let is = all.done.flat.each s a.0 a.1 in
        subst (λ (u : ℕ). fired_after l (suc k) u ≡ fired_after l k u) is.filled
        (rests_by (a.0).filler (get_or x.went.items (a.0).filler false) (can s a.0 a.1).filled refl
        (λ on. subst (λ (u : ℕ). get_or new.awake.items u false ≡ true) (is.drained ∙ drains) (to.wakes.drainers s a.0 a.1 on)))

    drainer_rests : (s : ℕ) → s < stations_of l → filler (links_of l.setup.system) l.setup.placement s ≡ v
        → fired_after l (suc k) (drainer (links_of l.setup.system) l.setup.placement s) ≡ fired_after l k (drainer (links_of l.setup.system) l.setup.placement s)
    drainer_rests s low fills =
        let a = item_at x.stations.all.items s (omega (arith, all.done.flat.many)) in
        let is = all.done.flat.each s a.0 a.1 in
        subst (λ (u : ℕ). fired_after l (suc k) u ≡ fired_after l k u) is.drained
        (rests_by (a.0).drainer (get_or x.went.items (a.0).drainer false) (can s a.0 a.1).drained refl
        (λ on. subst (λ (u : ℕ). get_or new.awake.items u false ≡ true) (is.filled ∙ fills) (to.wakes.fillers s a.0 a.1 on)))

    -- so it is barred still
    barred_on : IsBarred l (suc k) v
    barred_on = elim bar [
      | inl cap ↦ inl (subst (λ (n : ℕ). cap_of (links_of l.setup.system) (length l.setup.input) v ≤ n) (sym own) cap)
      | inr (inl void) ↦
          let fills = filler_rests void.station void.there void.drains in
          let drains : fired_after l (suc k) (drainer (links_of l.setup.system) l.setup.placement void.station) ≡ fired_after l k (drainer (links_of l.setup.system) l.setup.placement void.station) =
          subst (λ (u : ℕ). fired_after l (suc k) u ≡ fired_after l k u) (sym void.drains) own in
          inr (inl (record { station = void.station; there = void.there; drains = void.drains; void = omega (arith, fills, drains, void.void) }))
      | inr (inr stop) ↦
          let drains = drainer_rests stop.station stop.there stop.fills in
          let fills : fired_after l (suc k) (filler (links_of l.setup.system) l.setup.placement stop.station) ≡ fired_after l k (filler (links_of l.setup.system) l.setup.placement stop.station) =
          subst (λ (u : ℕ). fired_after l (suc k) u ≡ fired_after l k u) (sym stop.fills) own in
          inr (inr (record { station = stop.station; there = stop.there; fills = stop.fills; stop = omega (arith, fills, drains, stop.stop) }))
    ]

  nodes_same : new.nodes.items ≡ x.nodes.items
  nodes_same = ap (λ ns. ns.items) to.keeps.nodes

  asleep_on : AreAsleep l (suc k) new.nodes.items new.awake.items
  asleep_on = record {
    many = to.wakes.long ∙ all.asleep.many;
    barred = barred_on;
    rested = λ v a e at. all.asleep.rested v a (slept v e) (subst (λ (xs : List ClockActor). slice_get xs v ≡ Some a) nodes_same at);
  }

  node_at : (v : ℕ) (a : ClockActor) → slice_get new.nodes.items v ≡ Some a → Decided l k g v a
  node_at v a at =
      let here : slice_get x.nodes.items v ≡ Some a = subst (λ (xs : List ClockActor). slice_get xs v ≡ Some a) nodes_same at in
      let low = slice_get_within x.nodes.items v a here in
      all.nodes_done v a (omega (arith, all.nodes, all.movers)) here

  -- the run after the cycle
  pub goes_on : (old : FlatRun) → FlatRan l k g old → KeepsRows old x → FlatRan l (suc k) g new
  goes_on old ran keeps = record {
    rules = ran.rules;
    rows_are = to.keeps.rest.rows ∙ keeps.rows ∙ ran.rows_are;
    given_is = to.keeps.rest.given ∙ keeps.given ∙ ran.given_is;
    few = ran.few;
    all_nodes = record { many = ap length nodes_same ∙ all.nodes; each = λ v a at. (node_at v a at).actor };
    all_movers = record {
      many = ap (λ ms. length l.setup.system.nodes + length ms.items) to.keeps.movers ∙ all.movers;
      each = λ j m at.
          let here : slice_get x.movers.items j ≡ Some m = subst (λ ms. slice_get ms.items j ≡ Some m) to.keeps.movers at in
          let low = slice_get_within x.movers.items j m here in
          all.movers_done j m (omega (arith, all.movers)) here;
    };
    all_stations = flat;
    flags = to.many ∙ all.done.many;
    unset = λ v w past at. let low = slice_get_within new.went.items v w at in to.unset v w (omega (arith, to.many)) at;
    asleep = asleep_on;
    latest = λ a at. latest l k g a (node_at (sink l) a at);
  }
