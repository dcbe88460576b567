-- A flat run of a life is one of that life with another hold, before the holds differ.
use Rattle.std.proofs.Common.{◌≡◌, ℕ, ◌+◌, Bool, List, length, sym, ◌∙◌, ap, subst, arith}
use Rattle.lid_graph.specs.Firings.{Hold, Counts}
use Rattle.lid_stations.specs.Placements.{links_of}
use Rattle.lid_shell_laws.specs.Rules.{MayNotFire}
use Rattle.lid_shell_laws.specs.Runs.{in_count, out_count}
use Rattle.lid_clock.specs.declared.actor.ClockActor.{ClockActor}
use Rattle.lid_clock.specs.Lives.{Life, NeedsRow, fired_after}
use Rattle.lid_clock.specs.States.{token_of_life, IsActor}
use Rattle.lid_clock.proofs.Held.{held_so, AgreeBefore, fired_alike, actor_alike, begins_alike, replaced, replaced_agrees}
use Rattle.lid_clock_flat.specs.declared.station.FlatStation.{FlatStation}
use Rattle.lid_clock_flat.specs.declared.mover.FlatMover.{FlatMover}
use Rattle.lid_clock_flat.specs.declared.run.FlatRun.{FlatRun}
use Rattle.lid_clock_flat.specs.Flats.{IsFlatAt, AreFlat, AreMovers, AreNodesAt}
use Rattle.lid_clock_flat.specs.Wakings.{AreAsleep, DecidedTo}
use Rattle.lid_clock_flat.specs.Runs.{FlatRan}
use Rattle.lid_clock_flat.proofs.Keeping.{none_decided}

module _ (l : Life) (hold : Hold) (k : ℕ) (agree : AgreeBefore k hold l.hold) where
  same : fired_after (held_so l hold) k ≡ fired_after l k
  same = fired_alike l hold k agree

  station_alike : (s : ℕ) (places : List ℕ) (x : FlatStation) → IsFlatAt l k s places x → IsFlatAt (held_so l hold) k s places x
  station_alike s places x is = record {
    filled = is.filled;
    drained = is.drained;
    size = is.size;
    holds =
        ap (λ (c : Counts). in_count (links_of l.setup.system) l.setup.placement (length l.setup.input) c s) same
        ∙ is.holds
        ∙ ap (λ (c : Counts). out_count (links_of l.setup.system) l.setup.placement c s + x.held) (sym same);
    tokens = λ i less. is.tokens i less ∙ ap (λ (c : Counts). token_of_life l s (out_count (links_of l.setup.system) l.setup.placement c s + i)) (sym same);
  }

  pub flat_alike : (all : List FlatStation) (places : List ℕ) → AreFlat l k all places → AreFlat (held_so l hold) k all places
  flat_alike all places flat = record { many = flat.many; apart = flat.apart; each = λ s x at. station_alike s places x (flat.each s x at) }

  pub movers_alike : (movers : List FlatMover) → AreMovers l k movers → AreMovers (held_so l hold) k movers
  movers_alike movers are = record {
    many = are.many;
    each = λ j m at.
        let is = are.each j m at in
        record { past = is.past; there = is.there; drains = is.drains; fills = is.fills; fired_is = is.fired_is ∙ ap (λ (c : Counts). c (length l.setup.system.nodes + j)) (sym same) };
  }

  pub nodes_alike : (g : ℕ) (nodes : List ClockActor) → AreNodesAt l k g nodes → AreNodesAt (held_so l hold) k g nodes
  nodes_alike g nodes are = record {
    many = are.many;
    each = λ v a at. subst (λ (c : Counts). IsActor (held_so l hold) g v (c v) a) (sym same) (actor_alike l hold g v (fired_after l k v) a (are.each v a at));
  }

  asleep_alike : (nodes : List ClockActor) (awake : List Bool) → AreAsleep l k nodes awake → AreAsleep (held_so l hold) k nodes awake
  asleep_alike nodes awake are = record {
    many = are.many;
    barred = λ v e. subst (λ (c : Counts). MayNotFire (links_of l.setup.system) l.setup.placement (length l.setup.input) c v) (sym same) (are.barred v e);
    rested = are.rested;
  }

-- as a cycle begins, nobody has decided, in that life with the hold of this cycle
pub none_so : (l : Life) (k g : ℕ) (x : FlatRun) → FlatRan l k g x → ¬ (NeedsRow l k g) → (source last : Bool) → DecidedTo (held_so l (replaced l k source last)) k g 0 x
none_so l k g x ran fed source last =
    let hold : Hold = replaced l k source last in
    let agree = replaced_agrees l k source last in
    let nodes = nodes_alike l hold k agree g x.nodes.items ran.all_nodes in
    let movers = movers_alike l hold k agree x.movers.items ran.all_movers in
    record {
      begins = begins_alike l hold k g agree (record { rules = ran.rules; fed = fed });
      nodes = nodes.many;
      nodes_done = λ v a less at. absurd (omega arith);
      nodes_left = λ v a past at. nodes.each v a at;
      movers = movers.many;
      movers_done = λ j m less at. absurd (omega arith);
      movers_left = λ j m past at. movers.each j m at;
      done = none_decided (held_so l hold) k x.stations x.went.items (flat_alike l hold k agree x.stations.all.items x.stations.places.items ran.all_stations) ran.flags;
      unset = ran.unset;
      asleep = asleep_alike l hold k agree x.nodes.items x.awake.items ran.asleep;
    }
