use Rattle.std.proofs.Common.{List, sym, ◌∙◌, ap, subst}
use Rattle.lid_rate_ratio.specs.declared.lowest_terms.Ratio.{Ratio}
use Rattle.lid_stations.specs.Placed.{links_in}
use Rattle.lid_stations.specs.Placements.{station_count}
use Rattle.lid_size.specs.Comparing.{IsFirstLow}
use Rattle.lid_size.specs.Sizing.{sized, greatest}
use Rattle.lid_size.specs.Sizes.{Sizes}
use Rattle.lid_size.proofs.Reaching.{stations_counted, stations_of, compared_with, kept_reaches, falls_short}
use Rattle.lid_size.proofs.sizing.size_from.Goals as goal

pub forward_ratios-requires : goal.forward_ratios-requires
forward_ratios-requires c = stations_of _ _ c.args.graph.now c.len.result c.widest.view_is c.widest.invariant c.requires.graph c.len.ensures

pub find-requires : goal.find-requires
find-requires c = (stations_of _ _ c.args.graph.now c.len.result c.widest.view_is c.widest.invariant c.requires.graph c.len.ensures).rateable

pub find_low-requires : goal.find_low-requires
find_low-requires c = record {
  compared = (
    sized (links_in c.args.widest.now) c.args.widest.now.placement.relays (greatest c.args.widest.now.placement.relays),
    station_count c.args.widest.now.placement.relays,
    compared_with c.args.widest.now.system c.args.widest.now.placement.relays (greatest c.args.widest.now.placement.relays) c.args.graph.now c.len.result c.in_ok-cert.cert c.in_ok-wants.wants.items c.deref.result.now
        (c.requires.graph ∙ ap (sized (links_in c.args.widest.now) c.args.widest.now.placement.relays) c.requires.widest) (stations_counted _ _ c.len.result c.widest.view_is c.widest.invariant c.len.ensures)
        (stations_of _ _ c.args.graph.now c.len.result c.widest.view_is c.widest.invariant c.requires.graph c.len.ensures).rateable
        c.in_ok-cert.ensures.certifies c.in_ok-cert.ensures.in_range c.in_ok-cert.ensures.short c.deref.ensures.value c.in_ok-wants.ensures,
  );
}

pub short-requires-clause-compared : goal.short-requires-clause-compared
short-requires-clause-compared c = (
  sized (links_in c.args.widest.now) c.args.widest.now.placement.relays (greatest c.args.widest.now.placement.relays),
  station_count c.args.widest.now.placement.relays,
  compared_with c.args.widest.now.system c.args.widest.now.placement.relays (greatest c.args.widest.now.placement.relays) c.args.graph.now c.len.result c.in_ok-cert.cert c.in_ok-wants.wants.items c.deref-in-Some.result.now
      (c.requires.graph ∙ ap (sized (links_in c.args.widest.now) c.args.widest.now.placement.relays) c.requires.widest) (stations_counted _ _ c.len.result c.widest.view_is c.widest.invariant c.len.ensures)
      (stations_of _ _ c.args.graph.now c.len.result c.widest.view_is c.widest.invariant c.requires.graph c.len.ensures).rateable
      c.in_ok-cert.ensures.certifies c.in_ok-cert.ensures.in_range c.in_ok-cert.ensures.short c.deref-in-Some.ensures.value c.in_ok-wants.ensures,
)

pub returns-in-Some : goal.returns-in-Some
returns-in-Some c = subst (Sizes (links_in c.args.widest.now) c.args.widest.now.placement.relays) (sym c.short.ensures)
    (falls_short c.args.widest.now.system c.args.widest.now.placement.relays c.in_ok-cert.cert c.deref-in-Some.result.now c.in-Some.low
    (compared_with c.args.widest.now.system c.args.widest.now.placement.relays (greatest c.args.widest.now.placement.relays) c.args.graph.now c.len.result c.in_ok-cert.cert c.in_ok-wants.wants.items c.deref-in-Some.result.now
    (c.requires.graph ∙ ap (sized (links_in c.args.widest.now) c.args.widest.now.placement.relays) c.requires.widest) (stations_counted _ _ c.len.result c.widest.view_is c.widest.invariant c.len.ensures)
    (stations_of _ _ c.args.graph.now c.len.result c.widest.view_is c.widest.invariant c.requires.graph c.len.ensures).rateable
    c.in_ok-cert.ensures.certifies c.in_ok-cert.ensures.in_range c.in_ok-cert.ensures.short c.deref-in-Some.ensures.value c.in_ok-wants.ensures)
    (subst (λ (ws : List Ratio). IsFirstLow ws c.in_ok-cert.cert.parts c.in-Some.low) (c.deref.ensures.value ∙ sym c.deref-in-Some.ensures.value) c.in-Some.ensures))

pub reached-requires-clause-greatest : goal.reached-requires-clause-greatest
reached-requires-clause-greatest c =
    kept_reaches c.args.widest.now.system c.args.widest.now.placement.relays (greatest c.args.widest.now.placement.relays) c.in_ok-cert.cert c.deref.result.now
    (compared_with c.args.widest.now.system c.args.widest.now.placement.relays (greatest c.args.widest.now.placement.relays) c.args.graph.now c.len.result c.in_ok-cert.cert c.in_ok-wants.wants.items c.deref.result.now
    (c.requires.graph ∙ ap (sized (links_in c.args.widest.now) c.args.widest.now.placement.relays) c.requires.widest) (stations_counted _ _ c.len.result c.widest.view_is c.widest.invariant c.len.ensures)
    (stations_of _ _ c.args.graph.now c.len.result c.widest.view_is c.widest.invariant c.requires.graph c.len.ensures).rateable
    c.in_ok-cert.ensures.certifies c.in_ok-cert.ensures.in_range c.in_ok-cert.ensures.short c.deref.ensures.value c.in_ok-wants.ensures)
    c.in-None.ensures
