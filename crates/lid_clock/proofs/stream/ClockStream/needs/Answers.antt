-- The source is the first actor.
use Rattle.std.proofs.Common.{◌≡◌, List, subst}
use Rattle.std.specs.Prelude.{Some, slice_get}
use Rattle.lid_clock.specs.declared.actor.ClockActor.{ClockActor}
use Rattle.lid_clock.proofs.Told.{needs_is}
use Rattle.lid_base.proofs.Places.{item_read}
use Rattle.lid_clock.proofs.stream.ClockStream.needs.Goals as goal

pub returns-in-Some : goal.returns-in-Some
returns-in-Some c = λ l k g ran.
    let at = c.in-Some.ensures.item in
    needs_is l k g c.args.self.now c.in-Some.source.now c.is_wanting.result ran
    (subst (λ (xs : List ClockActor). slice_get xs 0 ≡ Some c.in-Some.source.now) c.deref.ensures.value (item_read c.deref.result.now 0 c.in-Some.source.now at.3.0 at.1))
    c.is_wanting.ensures.yes c.is_wanting.ensures.no
