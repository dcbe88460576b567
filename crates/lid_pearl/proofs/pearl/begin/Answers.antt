use Rattle.std.proofs.Common.{length, sym, ◌∙◌, ap, subst}
use Rattle.std.proofs.lemmas.List.{length-map}
use Rattle.lid_design.specs.Flat.{latch_init}
use Rattle.lid_pearl.specs.declared.pearl.Layout.{Layout}
use Rattle.lid_pearl.specs.Inside.{IsLaidOut, AreHeld}
use Rattle.lid_pearl.proofs.pearl.begin.Goals as goal

pub invariant_of-result : goal.invariant_of-result
invariant_of-result c =
    let same = sym c.in_ok-layout.ensures.ok in
    let row = c.in_ok-row.ensures in (
      subst IsLaidOut same c.requires,
      subst (λ (l : Layout). AreHeld l c.in_ok-row.row.state.items c.in_ok-row.row.bits.items) same (record {
        state_size = ap length row.state ∙ length-map c.args.layout.shape.latches.all.items latch_init;
        size = row.size;
        settled = row.settled;
      }),
    )
