-- A sink's row is that which its node gave.
use Rattle.std.proofs.Common.{length, refl, sym, ◌∙◌, ap, subst}
use Rattle.std.specs.Vec.{with_items}
use Rattle.std.proofs.lemmas.List.{with_items_is}
use Rattle.lid_clock.specs.declared.part.Role.{Role}
use Rattle.lid_clock.specs.declared.part.Role.TheVariants.{Sink}
use Rattle.lid_clock.specs.Parts.{Passes}
use Rattle.lid_clock.proofs.part.Role.pass.Goals as goal

pub returns-in-Sink-clause-passes : goal.returns-in-Sink-clause-passes
returns-in-Sink-clause-passes c =
    let items = with_items_is c.in-Sink.row c.give.new.into (c.give.ensures.wide ∙ ap length c.deref_mut.ensures.value ∙ sym c.in-Sink.row.ok.0) in
    subst (λ (p : Role). Passes p c.args.taken.now c.args.into.now (Sink c.in-Sink.node (with_items c.in-Sink.row c.give.new.into))) (sym c.in-Sink.is)
    (refl, λ s rows b v t system table within sunk takes. items ∙ c.give.ensures.row s rows b v t system table within sunk takes)
