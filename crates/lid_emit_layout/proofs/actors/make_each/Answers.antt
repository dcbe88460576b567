-- Another actor is made of its stations.
use Rattle.std.proofs.lemmas.Option.{slice_get_read}
use Rattle.std.proofs.Common.{refl, ◌+◌, List, sym, subst}
use Rattle.lid_emit_cells.specs.declared.actor.ActorStations.{ActorStations}
use Rattle.lid_emit_layout.specs.Actors.{HaveEnds}
use Rattle.lid_emit_layout.proofs.Acting.{next_has}
use Rattle.lid_emit_layout.proofs.actors.make_each.Goals as goal

pub loop-v-preserved : goal.loop-v-preserved
loop-v-preserved c =
    let ends = c.args.ends.now in
    let v = c.loop-v.v in
    subst (λ (xs : List ActorStations). HaveEnds (v + 1) ends xs) (sym {A = List ActorStations} c.in_ok-push.ensures.items)
    (next_has v ends c.loop-v.actors.items c.index-ends-v.result c.in_ok-make_actor.field-0 c.loop-v.invariant (slice_get_read ends _ v c.index-ends-v.result refl c.loop-v-test.true c.index-ends-v.is) c.in_ok-make_actor.ensures)
