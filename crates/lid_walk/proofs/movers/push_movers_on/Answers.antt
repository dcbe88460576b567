-- One mover more.
use Rattle.std.proofs.Common.{◌≡◌, ◌<◌, ◌+◌, ℕ, List, get_or, refl, ◌∙◌, ap, subst, arith}
use Rattle.std.proofs.lemmas.List.Sums.{sum_by_more}
use Rattle.lid_stations.specs.Placed.{Placing, IsPlaced, links_in}
use Rattle.lid_stations.specs.Stations.{mover}
use Rattle.lid_texts_packed.specs.Input.{input_of}
use Rattle.lid_walk.specs.Inside.{AreFirstActors}
use Rattle.lid_walk.proofs.Pushed.{one_more}
use Rattle.lid_walk.proofs.Moved.{mover_at, is_mover}
use Rattle.lid_walk.proofs.movers.push_movers_on.Goals as goal

pub loop-place-preserved : goal.loop-place-preserved
loop-place-preserved c =
    let placed : IsPlaced c.args.placed.now.system c.args.placed.now.placement = subst (λ (v : Placing). IsPlaced v.system v.placement) c.placed.view_is c.placed.invariant in
    let s = c.args.placed.now.system in
    let p = c.args.placed.now.placement in
    let rows = input_of c.args.rows in
    let place = c.loop-place.place in
    let many : get_or c.as_slice.result.now c.args.c 0 ≡ get_or p.relays c.args.c 0 = ap (λ (xs : List ℕ). get_or xs c.args.c 0) (c.as_slice.ensures ∙ ap (λ (v : Placing). v.placement.relays) c.placed.view_is) in
    let less : place < get_or p.relays c.args.c 0 = omega (arith, c.loop-place-test.true) in
    let first = c.requires.first in
    let one = mover_at c.actors_go_by_rules.ensures s p placed.formed placed.fits c.args.c c.requires.there place (c.args.first + place) less (omega arith) in
    let next : mover (links_in c.args.placed.now) p c.args.c place + 1 ≡ mover (links_in c.args.placed.now) p c.args.c (place + 1) = omega arith in
    subst (λ (n : ℕ). AreFirstActors c.args.placed.now rows n c.push.new.self.items) next
    (one_more c.args.placed.now rows (mover (links_in c.args.placed.now) p c.args.c place) c.loop-place.actors.items c.push.new.self.items c.mover.result c.loop-place.invariant c.in_ok-push.ensures.items
    (is_mover c.args.placed.now rows (mover (links_in c.args.placed.now) p c.args.c place) (c.args.first + place) (c.args.first + place + 1) c.len-count.result c.mover.result one refl c.len-count.ensures c.mover.ensures))

pub returns : goal.returns
returns c =
    let p = c.args.placed.now.placement in
    let place = c.loop-place.place in
    let end = c.loop-place.auto.place-end in
    let many : get_or c.as_slice.result.now c.args.c 0 ≡ get_or p.relays c.args.c 0 = ap (λ (xs : List ℕ). get_or xs c.args.c 0) (c.as_slice.ensures ∙ ap (λ (v : Placing). v.placement.relays) c.placed.view_is) in
    let all : place ≡ get_or p.relays c.args.c 0 = omega (arith, c.loop-place-test.false) in
    let sum = sum_by_more (λ (k : ℕ). k) p.relays c.args.c 0 c.requires.there in
    let next : mover (links_in c.args.placed.now) p c.args.c place ≡ mover (links_in c.args.placed.now) p (c.args.c + 1) 0 = omega arith in
    subst (λ (n : ℕ). AreFirstActors c.args.placed.now (input_of c.args.rows) n c.loop-place.actors.items) next c.loop-place.invariant
