-- Another station is made where it stands.
use Rattle.std.proofs.Common.{◌≡◌, ◌+◌, ℕ, List, length, slice_get, Some, sym, subst, ap, ◌∙◌, arith}
use Rattle.std.proofs.lemmas.Option.{slice_get-get_or}
use Rattle.lid_stations.specs.Placements.{station_count}
use Rattle.lid_emit_cells.specs.declared.station.Station.{Station}
use Rattle.lid_emit_cells.specs.Matches.{IsStationOf, IsSmallStation}
use Rattle.lid_emit_system.specs.Wrapping.{circuit_plan}
use Rattle.lid_emit_shells.specs.Shells.{nets_of}
use Rattle.lid_emit_layout.specs.declared.sites.Site.{Site}
use Rattle.lid_emit_layout.specs.Sites.{AreSites}
use Rattle.std.proofs.lemmas.List.{length_push}
use Rattle.lid_base.proofs.Places.{each_push}
use Rattle.lid_emit_layout.proofs.stations.make_stations.Goals as goal

pub make_station-requires : goal.make_station-requires
make_station-requires c =
    let sites = c.as_slice-site-items.result.now in
    let are = subst (λ (xs : List Site). AreSites c.args.placed.now.system c.args.placed.now.placement (station_count c.args.placed.now.placement.relays) xs) (sym c.as_slice-site-items.ensures.value) c.in_ok-sites.ensures in
    record { site = (are.each c.loop-site.site-index _ (slice_get-get_or sites c.loop-site.site-index _ (omega (arith, c.loop-site-test.true)))).1 }

pub loop-site-preserved : goal.loop-site-preserved
loop-site-preserved c =
    let q = circuit_plan c.args.placed.now.system c.args.placed.now.placement (nets_of c.args.shells.now) in
    let sites = c.as_slice-site-items.result.now in
    let are = subst (λ (xs : List Site). AreSites c.args.placed.now.system c.args.placed.now.placement (station_count c.args.placed.now.placement.relays) xs) (sym c.as_slice-site-items.ensures.value) c.in_ok-sites.ensures in
    let number = (are.each c.loop-site.site-index _ (slice_get-get_or sites c.loop-site.site-index _ (omega (arith, c.loop-site-test.true)))).0 in
    let was = c.loop-site.invariant in
    let x = c.in_ok-make_station.field-0 in
    let items = c.in_ok-push.ensures.items in
    let is : IsStationOf q (length c.loop-site.stations.items) x = subst (λ (n : ℕ). IsStationOf q n x) (number ∙ sym was.many) c.in_ok-make_station.ensures.is in
    record {
      many = ap length items ∙ length_push c.loop-site.stations.items x ∙ ap (λ (n : ℕ). n + 1) was.many;
      each = λ i y at. each_push (λ i y. IsStationOf q i y × IsSmallStation y) c.loop-site.stations.items x was.each (is, c.in_ok-make_station.ensures.small) i y (subst (λ (xs : List Station). slice_get xs i ≡ Some y) items at);
    }

pub returns : goal.returns
returns c =
    let was = c.loop-site.invariant in
    let are = subst (λ (xs : List Site). AreSites c.args.placed.now.system c.args.placed.now.placement (station_count c.args.placed.now.placement.relays) xs) (sym c.as_slice-site-items.ensures.value) c.in_ok-sites.ensures in
    record {
      many = (let long = are.many in let n = was.many in let least = c.loop-site-test.false in let most = c.loop-site.auto.site-index-end in omega arith);
      each = λ i x at. (was.each i x at).0;
      small = λ i x at. (was.each i x at).1;
    }
