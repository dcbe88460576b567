-- Another station of the channel stands where it is numbered.
use Rattle.std.proofs.Common.{◌≡◌, ◌≤◌, ◌<◌, ◌+◌, ℕ, List, get_or, sym, ap, subst, arith}
use Rattle.lid_stations.specs.Placements.{station_count}
use Rattle.lid_stations.specs.Laws.{StandsAt}
use Rattle.lid_stations.proofs.Spots.{station_at_spot}
use Rattle.lid_emit_layout.specs.declared.sites.Site.{Site}
use Rattle.lid_emit_layout.specs.Sites.{AreSites}
use Rattle.lid_emit_layout.proofs.Places.{next_site}
use Rattle.lid_emit_layout.proofs.sites.push_sites.Goals as goal

pub loop-place-preserved : goal.loop-place-preserved
loop-place-preserved c = λ s is none.
    let p = c.args.placement.now in
    let place = c.loop-place.place in
    let first = c.requires.first in
    let same : get_or c.as_slice.result.now c.args.c 0 ≡ get_or p.relays c.args.c 0 = ap (λ (xs : List ℕ). get_or xs c.args.c 0) c.as_slice.ensures in
    let within : place ≤ get_or p.relays c.args.c 0 = omega (arith, c.loop-place-test.true) in
    let at = station_at_spot p.relays c.args.c place c.requires.there within in
    let there : c.args.first + place < station_count p.relays = subst (λ (n : ℕ). n + place < station_count p.relays) (sym first) at.0 in
    let stands : StandsAt p.relays (c.args.first + place) c.args.c place = subst (λ (n : ℕ). StandsAt p.relays (n + place) c.args.c place) (sym first) at.1 in
    let made = c.site_at.ensures s p is there stands in
    let next = next_site s p (c.args.first + place) c.loop-place.sites.items c.site_at.result (c.loop-place.invariant s is none) made.0 made.1 in
    let number : (c.args.first + place) + 1 ≡ c.args.first + (place + 1) = omega arith in
    subst (λ (n : ℕ). AreSites s p n c.push.new.self.items) number
    (subst (λ (xs : List Site). AreSites s p ((c.args.first + place) + 1) xs) (sym c.in_ok-push.ensures.items) next)
