use Rattle.std.proofs.Common.{◌+◌, length, sym, ◌∙◌, ap, subst, arith}
use Rattle.lid_graph.specs.declared.graph.Edge.{Edge}
use Rattle.lid_graph.specs.Walks.{no_edge}
use Rattle.std.specs.Prelude.{List, slice_index_or}
use Rattle.lid_stations.specs.Placed.{Placing}
use Rattle.lid_free.specs.Workers.{AreOwners}
use Rattle.lid_free.proofs.Owning.{owners_more, no_owners}
use Rattle.lid_free.proofs.setting.owners_of.Goals as goal

pub loop-end-init : goal.loop-end-init
loop-end-init c = no_owners c.args.placed.now.system c.args.placed.now.placement c.new-owners.result.items c.new-owners.ensures.items

pub loop-end-preserved : goal.loop-end-preserved
loop-end-preserved c =
    let s = c.placed.inside.system.now in
    let p = c.placed.inside.placement.now in
    let within = c.loop-end-test.true in
    let caps = c.placed.invariant.fits.rules.caps in
    let long = c.len-end-end.ensures in
    let so = subst (λ (v : Placing). AreOwners v.system v.placement c.loop-end.end c.loop-end.owners.items) (sym c.placed.view_is) c.loop-end.invariant in
    subst (λ (v : Placing). AreOwners v.system v.placement (c.loop-end.end + 1) c.push.new.self.items) c.placed.view_is
    (owners_more s p c.runs_go_by_rules.ensures.edges c.loop-end.end c.loop-end.owners.items c.push.new.self.items c.from_at.result c.in_ok-graph.graph so c.in_ok-push.ensures.items c.in_ok-graph.ensures.is
    (c.from_at.ensures ∙ ap (λ (l : List Edge). (slice_index_or l c.loop-end.end no_edge).from) c.as_slice.ensures) (omega arith))

pub returns : goal.returns
returns c =
    let past = c.loop-end-test.false in
    let high = c.loop-end.auto.end-end in
    let long = c.len-end-end.ensures in
    let same = ap (λ (v : Placing). length v.placement.caps) c.placed.view_is in
    subst (λ n. AreOwners c.args.placed.now.system c.args.placed.now.placement n c.loop-end.owners.items) (omega arith) c.loop-end.invariant
