-- A node that sees no bar and is not held fires; else it rests.
use Rattle.std.proofs.Common.{◌≡◌, ◌⊎◌, inl, inr, true, false, List, length, sym, subst}
use Rattle.lid_stations.specs.Placements.{links_of}
use Rattle.lid_shell_laws.specs.Rules.{MayNotFire}
use Rattle.lid_clock.specs.declared.actor.ClockActor.{ClockActor}
use Rattle.lid_clock.specs.Lives.{fired_after}
use Rattle.lid_clock_flat.specs.declared.station.FlatStation.{FlatStation}
use Rattle.lid_clock_flat.specs.Nodes.{SeesStations, SeesNoBar, SeesBar}
use Rattle.lid_clock_flat.specs.Flats.{NodeDecided}
use Rattle.lid_clock_flat.proofs.Bars.{sees, fills_once, may_not_fire}
use Rattle.lid_clock_flat.proofs.Firing.{node_fired, node_rested}
use Rattle.lid_clock_flat.proofs.node.decide_node.Goals as goal
use Rattle.lid_clock_flat.proofs.node.decide_node.Goals.{then-held-via-then-held, then-held-via-else-held+then-not-may_fire}

pub may_fire-requires : goal.may_fire-requires
may_fire-requires c =
    let q = c.requires in
    let s = c.args.stations.now in
    subst (SeesStations c.args.node.now) (sym c.as_slice.ensures.value) (sees q.0 q.1 s.all.items s.places.items q.4.beside q.2 q.3 _ c.args.node.now q.4.actor)

pub returns-then-held : goal.returns-then-held
returns-then-held c = λ l k g v begins.
    let s = c.args.stations.now in
    let why : (c.args.held ≡ true) ⊎ MayNotFire (links_of l.setup.system) l.setup.placement (length l.setup.input) (fired_after l k) v = elim c.then-held.branch [
      | then-held-via-then-held w ↦ inl w.if-held.true
      | then-held-via-else-held+then-not-may_fire w ↦
          inr (may_not_fire l k s.all.items s.places.items begins.beside g v c.args.node.now begins.actor
          (subst (λ (xs : List FlatStation). SeesBar c.args.node.now xs) w.as_slice.ensures.value (w.may_fire.ensures.no w.if-not-may_fire.true)))
    ] in
    subst (λ (a : ClockActor). NodeDecided l k g v c.args.held false a s s) (sym c.rest.ensures) (node_rested c.runs_go_by_rules.ensures l k g v c.args.held c.args.node.now s begins why)

pub fire_node-requires-clause-there : goal.fire_node-requires-clause-there
fire_node-requires-clause-there c =
    let q = c.requires in
    let s = c.args.stations.now in
    sees q.0 q.1 s.all.items s.places.items q.4.beside q.2 q.3 _ c.args.node.now q.4.actor

pub fire_node-requires-clause-once : goal.fire_node-requires-clause-once
fire_node-requires-clause-once c =
    let q = c.requires in
    let s = c.args.stations.now in
    fills_once q.0 q.1 s.all.items s.places.items q.4.beside q.2 q.3 _ c.args.node.now q.4.actor

pub returns : goal.returns
returns c = λ l k g v begins.
    let s = c.args.stations.now in
    node_fired c.runs_go_by_rules.ensures l k g v c.args.held c.args.node.now s begins c.fire_node.new.node c.fire_node.new.stations c.if-held.false
    (subst (λ (xs : List FlatStation). SeesNoBar c.args.node.now xs) c.as_slice.ensures.value (c.may_fire.ensures.yes c.if-not-may_fire.false)) c.fire_node.ensures
