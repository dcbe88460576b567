-- A cycle takes a run of each life in which nobody is held to that after the cycle.
use Rattle.std.proofs.Common.{false, refl, ◌∙◌}
use Rattle.std.proofs.lemmas.List.{with_items_is}
use Rattle.lid_clock.proofs.Cycling.{needs_too, ran_on, can_decide, decided, can_settle, settled, nobody_held}
use Rattle.lid_parclock.proofs.cycle.cycle_on.Goals as goal

pub decide_on-requires-clause-can : goal.decide_on-requires-clause-can
decide_on-requires-clause-can g c κs within = let q = c.requires.can in can_decide q.0 q.1 q.2 c.args.stream.now _ _ q.3 q.4 c.deref_mut.ensures.value c.deref.ensures.value

pub settle_on-requires-clause-can : goal.settle_on-requires-clause-can
settle_on-requires-clause-can g c κs within =
    let q = c.requires.can in
    let x = c.args.stream.now in
    let news = c.decide_on.new.actors in
    let decides = decided x false false _ news _ c.deref_mut.ensures.value c.deref.ensures.value (c.decide_on.ensures x.sink) in
    let items = with_items_is x.actors news (c.decide_on.auto.actors ∙ c.deref_mut.ensures.len) in
    can_settle q.0 q.1 q.2 x false false news _ _ q.3 q.4 decides (c.deref-2.ensures.value ∙ items) c.deref_mut-2.ensures.value

pub returns-clause-ran : goal.returns-clause-ran
returns-clause-ran g c = λ l k n ran nobody _.
    let q = c.requires.can in
    let x = c.args.stream.now in
    let news = c.decide_on.new.actors in
    let left = c.settle_on.new.stations in
    let decides = decided x false false _ news _ c.deref_mut.ensures.value c.deref.ensures.value (c.decide_on.ensures x.sink) in
    let items = with_items_is x.actors news (c.decide_on.auto.actors ∙ c.deref_mut.ensures.len) in
    let settles = settled x news _ _ left (c.deref-2.ensures.value ∙ items) c.deref_mut-2.ensures.value c.settle_on.ensures in
    ran_on l k n x _ false false news left ran (λ needs. q.4 (needs_too l q.0 k n q.1 q.2 x ran q.3 needs)) (nobody_held l k nobody) decides settles
    items (with_items_is x.stations left (c.settle_on.auto.stations ∙ c.deref_mut-2.ensures.len)) refl refl refl

pub returns-clause-made : goal.returns-clause-made
returns-clause-made g c = λ l k n ran. (λ _. (c.below.ensures l k n ran).0 c.if-not-below.false, λ _. refl)
