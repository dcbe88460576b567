use Rattle.std.proofs.Common.{◌≡◌, ◌<◌, Bool, true, false, not, true≢false, length, sym, ◌∙◌, ap, arith}
use Rattle.lid_walk.proofs.Numbers.{sink_there}
use Rattle.lid_base.proofs.Places.{item_read}
use Rattle.lid_walk.proofs.walk.Walk.sink.Goals as goal

pub loop-actor-preserved : goal.loop-actor-preserved
loop-actor-preserved c m st walks =
    let low = c.loop-actor.invariant m st walks in
    let within : c.loop-actor.actor < length c.args.self.now.actors.items = omega (arith, low, sink_there m walks.rules, walks.actors.many) in
    let is = c.given.ensures.which m c.loop-actor.actor (st c.loop-actor.actor) (walks.actors.each c.loop-actor.actor c.index.result.now (item_read c.args.self.now.actors.items c.loop-actor.actor c.index.result.now within c.index.ensures)) in
    let none = c.is_none.ensures ∙ ap not c.loop-actor-test.true in
    omega (arith, low, other is none)
  where
    other : {b : Bool} {A : Type 0} → (b ≡ true → A) × (A → b ≡ true) → b ≡ false → A → ⊥
    other is none a = true≢false (sym (is.1 a) ∙ none)

pub returns : goal.returns
returns c m st walks =
    let low = c.loop-actor.invariant m st walks in
    let within : c.loop-actor.actor < length c.args.self.now.actors.items = omega (arith, low, sink_there m walks.rules, walks.actors.many) in
    let is = c.given.ensures.which m c.loop-actor.actor (st c.loop-actor.actor) (walks.actors.each c.loop-actor.actor c.index.result.now (item_read c.args.self.now.actors.items c.loop-actor.actor c.index.result.now within c.index.ensures)) in
    is.0 (c.is_none.ensures ∙ ap not c.loop-actor-test.false)
