-- The source is the first node; it takes the row, and nothing else changes.
use Rattle.std.proofs.Common.{◌≡◌, ◌<◌, List, length, set, refl, sym, ◌∙◌, ap, subst, length-set}
use Rattle.std.specs.Prelude.{Some, slice_get}
use Rattle.std.proofs.lemmas.List.{with_items_is}
use Rattle.std.proofs.lemmas.Option.{slice_get_within}
use Rattle.lid_base.proofs.Places.{item_read}
use Rattle.lid_clock.specs.declared.actor.ClockActor.{ClockActor}
use Rattle.lid_clock.specs.Cycles.{CanTake, TakesRow}
use Rattle.lid_clock.proofs.Giving.{can_take}
use Rattle.lid_clock_flat.proofs.Told.{source_at, needs_too}
use Rattle.lid_clock_flat.proofs.Giving.{gave}
use Rattle.lid_clock_flat.proofs.run.FlatRun.give.Goals as goal

pub receive-requires : goal.receive-requires
receive-requires c =
    let q = c.requires in
    let a = c.index-nodes-0.result in
    let source = source_at q.0 q.1 q.2 c.args.self.now q.3 in
    let some : 0 < length c.as_mut_slice-nodes.result.now = subst (λ (xs : List ClockActor). 0 < length xs) (sym c.as_mut_slice-nodes.ensures.value) (slice_get_within c.args.self.now.nodes.items 0 source.0 source.1) in
    let there = subst (λ (xs : List ClockActor). slice_get xs 0 ≡ Some a) c.as_mut_slice-nodes.ensures.value (item_read c.as_mut_slice-nodes.result.now 0 a some c.index-nodes-0.is) in
    subst (λ (x : ClockActor). CanTake x.part (length c.args.row.now)) c.index-nodes-0.is
    (can_take q.0 q.2 _ a c.args.row.now (q.3.all_nodes.each 0 a there) q.5)

pub returns : goal.returns
returns c = λ l k g ran next.
    let q = c.requires in
    let x = c.args.self.now in
    let a = c.index-nodes-0.result in
    let source = source_at l k g x ran in
    let some : 0 < length c.as_mut_slice-nodes.result.now = subst (λ (xs : List ClockActor). 0 < length xs) (sym c.as_mut_slice-nodes.ensures.value) (slice_get_within x.nodes.items 0 source.0 source.1) in
    let there = subst (λ (xs : List ClockActor). slice_get xs 0 ≡ Some a) c.as_mut_slice-nodes.ensures.value (item_read c.as_mut_slice-nodes.result.now 0 a some c.index-nodes-0.is) in
    let can = can_take q.0 q.2 _ a c.args.row.now (q.3.all_nodes.each 0 a there) q.5 in
    let takes = subst (λ (y : ClockActor). TakesRow y.part c.args.row.now c.receive.new.self.part) (sym c.index-nodes-0.is) c.receive.ensures.part in
    let rest = subst (λ (y : ClockActor). c.receive.new.self ≡ record y { part = c.receive.new.self.part }) (sym c.index-nodes-0.is) c.receive.ensures.rest in
    let many : length (set c.as_mut_slice-nodes.result.now 0 c.receive.new.self) ≡ x.nodes.len = length-set c.as_mut_slice-nodes.result.now 0 c.receive.new.self ∙ c.as_mut_slice-nodes.ensures.len in
    let items = with_items_is x.nodes (set c.as_mut_slice-nodes.result.now 0 c.receive.new.self) many ∙ ap (λ (xs : List ClockActor). set xs 0 c.receive.new.self) c.as_mut_slice-nodes.ensures.value in
    gave l k g x _ a c.receive.new.self c.args.row.now ran (needs_too q.0 l q.1 q.2 k g x q.3 ran q.4) next there can takes rest items refl refl refl refl refl refl
