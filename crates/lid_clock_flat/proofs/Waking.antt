-- Actors decide one after the other. Who sleeps is passed over.
use Rattle.std.proofs.Common.{◌≡◌, ℕ, suc, ◌+◌, ◌-◌, ◌<◌, ◌≤◌, inr, zero, Bool, true, false, cond, List, length, set, refl, sym, ◌∙◌, ap, subst, arith, length-set, ne_eqb, ◌==◌}
use Rattle.std.specs.Prelude.{◌||◌, Some, slice_get}
use Rattle.std.proofs.lemmas.Option.{slice_get_within}
use Rattle.lid_base.proofs.Places.{set_here, set_there}
use Rattle.lid_clock.specs.declared.actor.ClockActor.{ClockActor}
use Rattle.lid_clock.specs.Rules.{RunsGoByRules}
use Rattle.lid_clock.specs.Lives.{Life, Holds, NeedsRow, fired_after, sink}
use Rattle.lid_clock.specs.Cycles.{held_at}
use Rattle.lid_clock.specs.States.{actors_of, IsActor, Decided}
use Rattle.lid_clock.proofs.Decisions.{rested}
use Rattle.lid_clock_flat.specs.declared.stations.FlatStations.{FlatStations}
use Rattle.lid_clock_flat.specs.declared.mover.FlatMover.{FlatMover}
use Rattle.lid_clock_flat.specs.declared.run.FlatRun.{FlatRun}
use Rattle.lid_clock_flat.specs.Flats.{IsMover, IsBarred, Chose, HaveDecided, NodeBegins, NodeDecided, MoverBegins, MoverDecided}
use Rattle.lid_clock_flat.specs.Wakings.{AreUnset, AreAsleep, DecidedTo}
use Rattle.lid_clock_flat.specs.Runs.{FlatRan}
use Rattle.lid_clock_flat.proofs.Turning.{Turned, one_turned}
use Rattle.lid_clock_flat.proofs.Keeping.{decided_next, none_decided}
use mathlib.Core.Logic.{dite}
use native.Mathlib.Decide.{ℕ_discrete}
use borrow.Author.Clash.{clash}

-- as a cycle begins, nobody has decided
pub none_to : (l : Life) (k g : ℕ) (x : FlatRun) → FlatRan l k g x → ¬ (NeedsRow l k g) → DecidedTo l k g 0 x
none_to l k g x ran fed = record {
  begins = record { rules = ran.rules; fed = fed };
  nodes = ran.all_nodes.many;
  nodes_done = λ v a less at. absurd (omega arith);
  nodes_left = λ v a past at. ran.all_nodes.each v a at;
  movers = ran.all_movers.many;
  movers_done = λ j m less at. absurd (omega arith);
  movers_left = λ j m past at. ran.all_movers.each j m at;
  done = none_decided l k x.stations x.went.items ran.all_stations ran.flags;
  unset = ran.unset;
  asleep = ran.asleep;
}

unfired : (a : ClockActor) → a.went ≡ false → record a { went = false } ≡ a
unfired a rests = ap (λ (w : Bool). record a { went = w }) (sym rests)

module _ (r : RunsGoByRules) (l : Life) (k g n : ℕ) (x : FlatRun) (to : DecidedTo l k g n x) (sleeps : slice_get x.awake.items n ≡ Some false) where
  bar : IsBarred l k n
  bar = to.asleep.barred n sleeps

  there : n < actors_of l
  there = let low = slice_get_within x.awake.items n false sleeps in omega (arith, to.asleep.many)

  same : fired_after l (suc k) n ≡ fired_after l k n
  same = r.rests l.setup.system l.setup.placement (length l.setup.input) l.hold k n to.begins.rules.system to.begins.rules.fits there (inr bar)

  node_rests : (a : ClockActor) → slice_get x.nodes.items n ≡ Some a → Decided l k g n a
  node_rests a at = subst (Decided l k g n) (unfired a (to.asleep.rested n a sleeps at)) (rested r l k g n a to.begins (to.nodes_left n a (omega arith) at) (inr bar))

  mover_rests : (m : FlatMover) → IsMover l k n m → IsMover l (suc k) n m
  mover_rests m is = record { past = is.past; there = is.there; drains = is.drains; fills = is.fills; fired_is = is.fired_is ∙ sym same }

  -- one that sleeps is passed over
  pub passed_one : DecidedTo l k g (n + 1) x
  passed_one = record {
    begins = to.begins;
    nodes = to.nodes;
    nodes_done = λ v a less at.
        dite (ℕ_discrete v n)
        (λ here. subst (λ (u : ℕ). Decided l k g u a) (sym here) (node_rests a (subst (λ (u : ℕ). slice_get x.nodes.items u ≡ Some a) here at)))
        (λ other. to.nodes_done v a (omega arith) at);
    nodes_left = λ v a past at. to.nodes_left v a (omega arith) at;
    movers = to.movers;
    movers_done = λ j m less at.
        dite (ℕ_discrete (length l.setup.system.nodes + j) n)
        (λ here. subst (λ (u : ℕ). IsMover l (suc k) u m) (sym here) (mover_rests m (subst (λ (u : ℕ). IsMover l k u m) here (to.movers_left j m (omega arith) at))))
        (λ other. to.movers_done j m (omega arith) at);
    movers_left = λ j m past at. to.movers_left j m (omega arith) at;
    done = record {
      many = to.done.many;
      flat = to.done.flat;
      chose = λ v w less at.
          dite (ℕ_discrete v n)
          (λ here.
          let off : w ≡ false = to.unset v w (omega arith) at in
          subst (λ (u : ℕ). Chose l k u w) (sym here) (record { goes = λ e. clash w e off; rests = λ _. same }))
          (λ other. to.done.chose v w (omega arith) at);
      offers = λ v less at.
          dite (ℕ_discrete v n)
          (λ here. clash true refl (to.unset v true (omega arith) at))
          (λ other. to.done.offers v (omega arith) at);
    };
    unset = λ v w past at. to.unset v w (omega arith) at;
    asleep = to.asleep;
  }

-- and so are many
passed_so : (r : RunsGoByRules) (l : Life) (k g d n : ℕ) (x : FlatRun) → DecidedTo l k g n x → ((v : ℕ) → n ≤ v → v < n + d → slice_get x.awake.items v ≡ Some false) → DecidedTo l k g (n + d) x
passed_so r l k g zero n x to sleep = subst (λ (m : ℕ). DecidedTo l k g m x) (omega arith) to
passed_so r l k g (suc d) n x to sleep =
    subst (λ (m : ℕ). DecidedTo l k g m x) (let e : (n + 1) + d ≡ n + suc d = omega arith in e)
    (passed_so r l k g d (n + 1) x (passed_one r l k g n x to (sleep n (omega arith) (omega arith))) (λ v past less. sleep v (omega arith) (omega arith)))

pub passed : (r : RunsGoByRules) (l : Life) (k g n m : ℕ) (x : FlatRun) → DecidedTo l k g n x → n ≤ m → ((v : ℕ) → n ≤ v → v < m → slice_get x.awake.items v ≡ Some false) → DecidedTo l k g m x
passed r l k g n m x to past sleep =
    let e : n + (m - n) ≡ m = omega arith in
    subst (λ (u : ℕ). DecidedTo l k g u x) e (passed_so r l k g (m - n) n x to (λ v from less. sleep v from (omega arith)))

none_or : (w h : Bool) → (w || h) ≡ false → (w ≡ false) × (h ≡ false)
none_or true h e = clash true refl e
none_or false h e = (refl, e)

-- who sleeps after one more has been looked at
module _ (l : Life) (k n : ℕ) (nodes news : List ClockActor) (awake : List Bool) (stays : Bool) (asleep : AreAsleep l k nodes awake) (bars : stays ≡ false → IsBarred l k n)
    (rests : (a : ClockActor) → stays ≡ false → slice_get news n ≡ Some a → a.went ≡ false) (others : (v : ℕ) → (v ≡ n → ⊥) → slice_get news v ≡ slice_get nodes v) where
  slept : (v : ℕ) → v ≡ n → slice_get (set awake n stays) v ≡ Some false → stays ≡ false
  slept v here e = set_here awake n stays false (subst (λ (u : ℕ). slice_get (set awake n stays) u ≡ Some false) here e)

  pub asleep_next : AreAsleep l k news (set awake n stays)
  asleep_next = record {
    many = length-set awake n stays ∙ asleep.many;
    barred = λ v e.
        dite (ℕ_discrete v n)
        (λ here. subst (IsBarred l k) (sym here) (bars (slept v here e)))
        (λ other. asleep.barred v (sym (set_there awake n v stays other) ∙ e));
    rested = λ v a e at.
        dite (ℕ_discrete v n)
        (λ here. rests a (slept v here e) (subst (λ (u : ℕ). slice_get news u ≡ Some a) here at))
        (λ other. asleep.rested v a (sym (set_there awake n v stays other) ∙ e) (sym (others v other) ∙ at));
  }

unset_next : (n : ℕ) (w : Bool) (went : List Bool) → AreUnset n went → AreUnset (n + 1) (set went n w)
unset_next n w went unset v b past at = unset v b (omega arith) (sym (set_there went n v w (λ same. omega arith)) ∙ at)

-- a node
module _ (l : Life) (k g n : ℕ) (source last held went : Bool) (x : FlatRun) (to : DecidedTo l k g n x) (new : ClockActor) (z : FlatStations) where
  pub node_ready : (a : ClockActor) → slice_get x.nodes.items n ≡ Some a → Holds l k source last → held ≡ held_at (length x.nodes.items - 1) source last n → NodeBegins l k g n held a x.stations
  node_ready a at holds is =
      let sunk : length x.nodes.items - 1 ≡ sink l = omega (arith, to.nodes) in
      record {
        begins = to.begins;
        actor = to.nodes_left n a (omega arith) at;
        beside = to.done.flat;
        holds = holds n ∙ ap (λ (u : ℕ). held_at u source last n) (sym sunk) ∙ sym is;
      }

  pub node_next : (y : FlatRun) → n < length x.nodes.items → NodeDecided l k g n held went new x.stations z → y.nodes.items ≡ set x.nodes.items n new → y.movers ≡ x.movers → y.stations ≡ z
      → y.went.items ≡ set x.went.items n went → y.awake.items ≡ set x.awake.items n (went || held) → DecidedTo l k g (n + 1) y
  node_next y within decided are_nodes are_movers are_stations are_flags are_awake =
      let turned : Turned (λ (v : ℕ) (a : ClockActor). Decided l k g v a) (λ (v : ℕ) (a : ClockActor). IsActor l g v (fired_after l k v) a) (n + 1) (set x.nodes.items n new) =
      one_turned (λ v a. Decided l k g v a) (λ v a. IsActor l g v (fired_after l k v) a) n x.nodes.items new (record { before = to.nodes_done; after = to.nodes_left }) decided.decided in
      record {
        begins = to.begins;
        nodes = ap length are_nodes ∙ length-set x.nodes.items n new ∙ to.nodes;
        nodes_done = λ v a less at. turned.before v a less (subst (λ (xs : List ClockActor). slice_get xs v ≡ Some a) are_nodes at);
        nodes_left = λ v a past at. turned.after v a past (subst (λ (xs : List ClockActor). slice_get xs v ≡ Some a) are_nodes at);
        movers = ap (λ ms. length l.setup.system.nodes + length ms.items) are_movers ∙ to.movers;
        movers_done = λ j m less at. absurd (omega (arith, to.nodes));
        movers_left = λ j m past at. to.movers_left j m (omega arith) (subst (λ ms. slice_get ms.items j ≡ Some m) are_movers at);
        done = subst (λ (s : FlatStations). HaveDecided l k (n + 1) s y.went.items) (sym are_stations) (subst (HaveDecided l k (n + 1) z) (sym are_flags) (decided_next l k n went x.stations z x.went.items to.done decided.steps));
        unset = subst (AreUnset (n + 1)) (sym are_flags) (unset_next n went x.went.items to.unset);
        asleep = subst (AreAsleep l k y.nodes.items) (sym are_awake)
            (asleep_next l k n x.nodes.items y.nodes.items x.awake.items (went || held) to.asleep
            (λ e. let off = none_or went held e in decided.bars off.0 off.1)
            (λ a e at.
            let is : new ≡ a = set_here x.nodes.items n new a (subst (λ (xs : List ClockActor). slice_get xs n ≡ Some a) are_nodes at) in
            ap (λ (b : ClockActor). b.went) (sym is) ∙ decided.is ∙ (none_or went held e).0)
            (λ v other. ap (λ (xs : List ClockActor). slice_get xs v) are_nodes ∙ set_there x.nodes.items n v new other));
      }

-- a mover
module _ (l : Life) (k g n j : ℕ) (went : Bool) (x : FlatRun) (to : DecidedTo l k g n x) (number : n ≡ length x.nodes.items + j) where
  is_number : length l.setup.system.nodes + j ≡ n
  is_number = omega (arith, to.nodes)

  pub mover_ready : (source last : Bool) (m : FlatMover) → slice_get x.movers.items j ≡ Some m → Holds l k source last → MoverBegins l k n m x.stations
  mover_ready source last m at holds = record {
    rules = to.begins.rules;
    mover = subst (λ (u : ℕ). IsMover l k u m) is_number (to.movers_left j m (omega (arith, is_number)) at);
    beside = to.done.flat;
    free =
        let least : 2 ≤ length l.setup.system.nodes = to.begins.rules.system.least in
        let last_is : sink l ≡ length l.setup.system.nodes - 1 = refl in
        holds n
        ∙ ap (λ (b : Bool). cond b source (cond (n == sink l) last false)) (ne_eqb n 0 (λ e. omega (arith, is_number)))
        ∙ ap (λ (b : Bool). cond b last false) (ne_eqb n (sink l) (λ e. omega (arith, is_number)));
  }

  pub mover_next : (y : FlatRun) (new : FlatMover) (z : FlatStations) → j < length x.movers.items → MoverDecided l k n went new x.stations z → y.movers.items ≡ set x.movers.items j new → y.nodes ≡ x.nodes → y.stations ≡ z
      → y.went.items ≡ set x.went.items n went → y.awake.items ≡ set x.awake.items n went → DecidedTo l k g (n + 1) y
  mover_next y new z within decided are_movers are_nodes are_stations are_flags are_awake =
      let same : y.nodes.items ≡ x.nodes.items = ap (λ ns. ns.items) are_nodes in
      record {
        begins = to.begins;
        nodes = ap length same ∙ to.nodes;
        nodes_done = λ v a less at.
            let here : slice_get x.nodes.items v ≡ Some a = subst (λ (xs : List ClockActor). slice_get xs v ≡ Some a) same at in
            let low = slice_get_within x.nodes.items v a here in
            to.nodes_done v a (omega arith) here;
        nodes_left = λ v a past at.
            let here : slice_get x.nodes.items v ≡ Some a = subst (λ (xs : List ClockActor). slice_get xs v ≡ Some a) same at in
            to.nodes_left v a (omega arith) here;
        movers = ap (λ (ms : List FlatMover). length l.setup.system.nodes + length ms) are_movers ∙ ap (λ (i : ℕ). length l.setup.system.nodes + i) (length-set x.movers.items j new) ∙ to.movers;
        movers_done = λ i m less at.
            let set_at : slice_get (set x.movers.items j new) i ≡ Some m = subst (λ (ms : List FlatMover). slice_get ms i ≡ Some m) are_movers at in
            dite (ℕ_discrete i j)
            (λ here.
            let is : new ≡ m = set_here x.movers.items j new m (subst (λ (u : ℕ). slice_get (set x.movers.items j new) u ≡ Some m) here set_at) in
            let at_n : n ≡ length l.setup.system.nodes + i = omega (arith, is_number) in
            subst (λ (u : ℕ). IsMover l (suc k) u m) at_n (subst (IsMover l (suc k) n) is decided.mover))
            (λ other. to.movers_done i m (omega (arith, is_number)) (sym (set_there x.movers.items j i new other) ∙ set_at));
        movers_left = λ i m past at.
            let set_at : slice_get (set x.movers.items j new) i ≡ Some m = subst (λ (ms : List FlatMover). slice_get ms i ≡ Some m) are_movers at in
            to.movers_left i m (omega arith) (sym (set_there x.movers.items j i new (λ e. omega (arith, is_number))) ∙ set_at);
        done = subst (λ (s : FlatStations). HaveDecided l k (n + 1) s y.went.items) (sym are_stations) (subst (HaveDecided l k (n + 1) z) (sym are_flags) (decided_next l k n went x.stations z x.went.items to.done decided.steps));
        unset = subst (AreUnset (n + 1)) (sym are_flags) (unset_next n went x.went.items to.unset);
        asleep = subst (AreAsleep l k y.nodes.items) (sym are_awake)
            (asleep_next l k n x.nodes.items y.nodes.items x.awake.items went to.asleep decided.bars
            (λ a e at. let low = slice_get_within x.nodes.items n a (subst (λ (xs : List ClockActor). slice_get xs n ≡ Some a) same at) in absurd (omega arith))
            (λ v other. ap (λ (xs : List ClockActor). slice_get xs v) same));
      }

-- the number of an actor after the nodes
pub mover_number : (x : FlatRun) (nodes actor : ℕ) → nodes ≡ length x.nodes.items → nodes ≤ actor → actor ≡ length x.nodes.items + (actor - nodes)
mover_number x nodes actor many past = omega (arith, many)
