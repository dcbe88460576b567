-- The sink is the actor that was read.
use Rattle.std.proofs.Common.{◌≡◌, List, subst}
use Rattle.std.specs.Prelude.{Some, slice_get}
use Rattle.lid_clock.specs.declared.actor.ClockActor.{ClockActor}
use Rattle.lid_clock.proofs.Told.{below_is}
use Rattle.lid_base.proofs.Places.{item_read}
use Rattle.lid_clock.proofs.stream.ClockStream.below.Goals as goal

pub returns-in-Some : goal.returns-in-Some
returns-in-Some c = λ l k g ran.
    let at = c.in-Some.ensures.lookup in
    below_is l k g c.args.self.now c.in-Some.sink.now ran
    (subst (λ (xs : List ClockActor). slice_get xs c.args.self.now.sink ≡ Some c.in-Some.sink.now) c.deref.ensures.value (item_read c.deref.result.now c.args.self.now.sink c.in-Some.sink.now at.3.0 at.1))
