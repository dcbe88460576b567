-- All have decided where those of each share have.
use Rattle.std.proofs.Common.{◌+◌, Bool, false, subst, arith}
use Rattle.std.proofs.lemmas.Option.{slice_get_within}
use Rattle.lid_clock.specs.States.{Decides}
use Rattle.lid_clock.proofs.Cycling.{none_held}
use Rattle.lid_clock.proofs.Together.{each_can_decide, all_decide}
use Rattle.lid_parclock.proofs.InShares.{among, number_few, changed}
use Rattle.lid_parclock.proofs.deciding.decide_on.Goals as goal

pub for_each_chunk_mut-requires-clause-accepts : goal.for_each_chunk_mut-requires-clause-accepts
for_each_chunk_mut-requires-clause-accepts g c κs within start share chunk =
    let actors = c.args.actors.now in
    let stations = c.args.stations.now in
    let size = c.share_length-size.result in
    let few = number_few actors share.now size start c.args.workers c.share_length-size.ensures chunk in (
      c.share_length-size.ensures.some,
      omega (arith, few, c.ranges.workers),
      λ i a here. each_can_decide actors stations (start + i) a c.requires.can (among actors share.now size start i a chunk here),
    )

pub returns : goal.returns
returns g c sunk =
    let olds = c.args.actors.now in
    let news = c.for_each_chunk_mut.new.s in
    let stations = c.args.stations.now in
    all_decide olds news stations sunk false false c.for_each_chunk_mut.auto.s
    (λ v a b old new.
    let at = (c.for_each_chunk_mut.ensures.by_index v a (slice_get_within olds v a old)).1 in
    subst (λ (held : Bool). Decides a stations held b) (none_held v sunk)
    (changed (λ x y. Decides x stations false y) olds news at.argument.now at.after_call.now v at.offset a b old new
    at.offset_in_chunk at.call.many at.old_element at.new_element (at.call.each at.offset)))
