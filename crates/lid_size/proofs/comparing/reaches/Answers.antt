use Rattle.std.proofs.Common.{refl, sym, subst}
use Rattle.lid_graph.specs.declared.graph.Graph.{Graph}
use Rattle.lid_stations.specs.Placed.{Placing}
use Rattle.lid_stations.specs.Placements.{links_of, station_count}
use Rattle.lid_size_forward.specs.ForwardParts.{AreForwardRatios}
use Rattle.lid_size.specs.Comparing.{AreCompared, AreWants}
use Rattle.lid_size.specs.Sizing.{sized}
use Rattle.lid_size.proofs.Reaching.{compared_with, reaches_is}
use Rattle.lid_size.proofs.comparing.reaches.Goals as goal

pub find_low-requires : goal.find_low-requires
find_low-requires c =
    let s = c.placed.inside.system.now in
    let p = c.placed.inside.placement.now in
    let wants = subst (λ (v : Placing). AreWants v c.args.wants.now) (sym c.placed.view_is) c.requires in
    record {
      compared = (
        sized (links_of s) p.relays p.caps,
        station_count p.relays,
        compared_with s p.relays p.caps c.in_ok-graph.graph (station_count p.relays) c.in_ok-cert.cert c.args.wants.now c.args.wants.now c.in_ok-graph.ensures.is refl c.in_ok-graph.ensures.rateable c.in_ok-cert.ensures.certifies c.in_ok-cert.ensures.in_range c.in_ok-cert.ensures.short refl (subst (λ (g : Graph). AreForwardRatios g (station_count p.relays) c.args.wants.now) (sym c.in_ok-graph.ensures.is) wants),
      );
    }

pub returns : goal.returns
returns c = rw (← c.placed.view_is) (
    let s = c.placed.inside.system.now in
    let p = c.placed.inside.placement.now in
    let wants = subst (λ (v : Placing). AreWants v c.args.wants.now) (sym c.placed.view_is) c.requires in
    let compared = compared_with s p.relays p.caps c.in_ok-graph.graph (station_count p.relays) c.in_ok-cert.cert c.args.wants.now c.args.wants.now c.in_ok-graph.ensures.is refl c.in_ok-graph.ensures.rateable c.in_ok-cert.ensures.certifies c.in_ok-cert.ensures.in_range c.in_ok-cert.ensures.short refl (subst (λ (g : Graph). AreForwardRatios g (station_count p.relays) c.args.wants.now) (sym c.in_ok-graph.ensures.is) wants) in
    reaches_is s p.relays p.caps c.in_ok-cert.cert c.args.wants.now compared c.find_low.result c.find_low.ensures c.is_none.result c.is_none.ensures)
