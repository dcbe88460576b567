-- The source is the first node.
use Rattle.std.proofs.Common.{◌≡◌, ℕ, ◌+◌, ◌<◌, true, List, sym, subst}
use Rattle.std.specs.Prelude.{Some, slice_get}
use Rattle.lid_clock.specs.declared.actor.ClockActor.{ClockActor}
use Rattle.lid_clock_flat.proofs.Told.{needs_is}
use Rattle.lid_clock_flat.proofs.run.FlatRun.needs.Goals as goal

pub returns-in-Some : goal.returns-in-Some
returns-in-Some c = λ l k g ran.
    let at = subst (λ (xs : List ClockActor). slice_get xs 0 ≡ Some c.in-Some.source.now) c.deref.ensures.value (sym c.in-Some.ensures.value) in
    needs_is l k g c.args.self.now ran c.in-Some.source.now c.is_wanting.result at
    (subst (λ (n : ℕ). c.is_wanting.result ≡ true → (c.args.self.now.given ≡ n + 1) × (c.args.self.now.given < c.args.self.now.rows)) c.count.ensures c.is_wanting.ensures.yes)
    (subst (λ (n : ℕ). c.args.self.now.given ≡ n + 1 → c.args.self.now.given < c.args.self.now.rows → c.is_wanting.result ≡ true) c.count.ensures c.is_wanting.ensures.no)
