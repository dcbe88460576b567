-- A cycle takes a run of each life with this hold to that after the cycle.
use Rattle.std.proofs.Common.{refl, ◌∙◌}
use Rattle.std.proofs.lemmas.List.{with_items_is}
use Rattle.lid_clock.proofs.Cycling.{needs_too, ran_on, can_decide, decided, can_settle, settled}
use Rattle.lid_clock.proofs.Together.{each_can_settle, all_settle}
use Rattle.lid_clock.proofs.stream.ClockStream.cycle_held.Goals as goal

pub decide_all-requires : goal.decide_all-requires
decide_all-requires c = let q = c.requires in can_decide q.0 q.1 q.2 c.args.self.now _ _ q.3 q.4 c.as_mut_slice.ensures.value c.as_slice.ensures.value

pub settle_each-requires : goal.settle_each-requires
settle_each-requires c =
    let q = c.requires in
    let x = c.args.self.now in
    let news = c.decide_all.new.actors in
    let decides = decided x c.args.source c.args.sink _ news _ c.as_mut_slice.ensures.value c.as_slice.ensures.value c.decide_all.ensures in
    let items = with_items_is x.actors news (c.decide_all.auto.actors ∙ c.as_mut_slice.ensures.len) in
    let can = can_settle q.0 q.1 q.2 x c.args.source c.args.sink news _ _ q.3 q.4 decides (c.as_slice-2.ensures.value ∙ items) c.as_mut_slice-2.ensures.value in
    λ s station there. each_can_settle c.as_mut_slice-2.result.now c.as_slice-2.result.now s station can there

pub returns-clause-ran : goal.returns-clause-ran
returns-clause-ran c = λ l k g ran holds _.
    let q = c.requires in
    let x = c.args.self.now in
    let news = c.decide_all.new.actors in
    let left = c.settle_each.new.stations in
    let decides = decided x c.args.source c.args.sink _ news _ c.as_mut_slice.ensures.value c.as_slice.ensures.value c.decide_all.ensures in
    let items = with_items_is x.actors news (c.decide_all.auto.actors ∙ c.as_mut_slice.ensures.len) in
    let settles = settled x news _ _ left (c.as_slice-2.ensures.value ∙ items) c.as_mut_slice-2.ensures.value
    (all_settle c.as_mut_slice-2.result.now left c.as_slice-2.result.now c.settle_each.ensures.many c.settle_each.ensures.each) in
    ran_on l k g x _ c.args.source c.args.sink news left ran (λ needs. q.4 (needs_too l q.0 k g q.1 q.2 x ran q.3 needs)) holds decides settles
    items (with_items_is x.stations left (c.settle_each.auto.stations ∙ c.as_mut_slice-2.ensures.len)) refl refl refl

pub returns-clause-made : goal.returns-clause-made
returns-clause-made c = λ l k g ran. (λ _. (c.below.ensures l k g ran).0 c.if-not-below.false, λ _. refl)
