-- The sink is the last node.
use Rattle.std.proofs.Common.{◌≡◌, ◌↔◌, ℕ, ◌-◌, nat_lt, true, List, length, sym, subst}
use Rattle.std.specs.Prelude.{Some, slice_get}
use Rattle.lid_clock.specs.declared.actor.ClockActor.{ClockActor}
use Rattle.lid_clock.specs.Lives.{IsBelow}
use Rattle.lid_clock_flat.proofs.Told.{below_is}
use Rattle.lid_clock_flat.proofs.run.FlatRun.below.Goals as goal

pub returns-in-Some : goal.returns-in-Some
returns-in-Some c = λ l k g ran.
    let at = subst (λ (xs : List ClockActor). slice_get xs (length xs - 1) ≡ Some c.in-Some.sink.now) c.deref.ensures.value (sym c.in-Some.ensures.value) in
    subst (λ (n : ℕ). (nat_lt n c.args.self.now.rows ≡ true) ↔ IsBelow l k) (sym c.count.ensures) (below_is l k g c.args.self.now ran c.in-Some.sink.now at)
