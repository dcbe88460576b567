-- What was made is the station of the plan.
use Rattle.std.proofs.Common.{◌<◌, ℕ, List, length, get_or, refl, sym, subst, ap, ◌∙◌, arith}
use Rattle.std.proofs.lemmas.List.{get_or_default}
use Rattle.lid_system.specs.declared.Channel.{Channel}
use Rattle.lid_stations.specs.Stations.{no_channel}
use Rattle.lid_stations.specs.Placed.{Placing}
use Rattle.lid_emit_layout.specs.Sites.{IsSite}
use Rattle.lid_emit_layout.proofs.Making.{station_is}
use Rattle.lid_emit_layout.proofs.stations.make_station.Goals as goal

pub returns-clause-is : goal.returns-clause-is
returns-clause-is c = rw (← c.placed.view_is) (
    let site = subst (λ (v : Placing). IsSite v.system v.placement c.args.site) (sym c.placed.view_is) c.requires.site in
    let s = c.placed.inside.system.now in
    let p = c.placed.inside.placement.now in
    let fits = c.placed.invariant.fits in
    let there : c.args.site.channel < length s.channels = omega (arith, site.stands.below, fits.counts) in
    let inside : c.args.site.station < length p.caps = omega (arith, site.there, fits.rules.caps) in
    station_is s p _ c.args.site c.index-as_slice-site.result site
    (c.index-as_slice-site.is ∙ ap (λ (xs : List Channel). get_or xs c.args.site.channel c.index-as_slice-site.result) c.as_slice.ensures ∙ get_or_default s.channels c.args.site.channel c.index-as_slice-site.result no_channel there)
    _ refl refl
    (ap (λ (xs : List ℕ). get_or xs c.args.site.station 0) c.as_slice-2.ensures ∙ get_or_default p.caps c.args.site.station 0 2 inside)
    c.first_count.ensures c.in_ok-bits.ensures)
