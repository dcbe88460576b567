-- The sink is the last node.
use Rattle.std.proofs.Common.{◌≡◌, ◌-◌, List, Bool, length, sym, subst}
use Rattle.std.specs.Prelude.{Option, Some, slice_get}
use Rattle.lid_clock.specs.declared.actor.ClockActor.{ClockActor}
use Rattle.lid_clock.specs.Lives.{IsLast}
use Rattle.lid_clock_flat.proofs.Told.{last_is}
use Rattle.lid_clock_flat.proofs.run.FlatRun.last.Goals as goal

pub returns-in-Some : goal.returns-in-Some
returns-in-Some c = λ l k g ran.
    let at = subst (λ (xs : List ClockActor). slice_get xs (length xs - 1) ≡ Some c.in-Some.sink.now) c.deref.ensures.value (sym c.in-Some.ensures.value) in
    subst (λ (o : Option (List Bool)). IsLast l k o) (sym c.last-in-Some.ensures) (last_is l k g c.args.self.now ran c.in-Some.sink.now at)
