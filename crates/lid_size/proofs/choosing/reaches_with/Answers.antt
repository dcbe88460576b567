use Rattle.std.proofs.Common.{sym, ◌∙◌, subst}
use Rattle.lid_stations.specs.Placed.{Placing}
use Rattle.lid_size.specs.Comparing.{AreWants}
use Rattle.lid_size.proofs.Reaching.{wants_with}
use Rattle.lid_size.proofs.choosing.reaches_with.Goals as goal

pub reaches-requires : goal.reaches-requires
reaches-requires c =
    let s = c.placed.inside.system.now in
    let p = c.placed.inside.placement.now in
    wants_with s p.relays p.caps c.in_ok-trial.trial.relays c.in_ok-trial.trial.caps c.args.wants.now (c.in_ok-trial.ensures.relays ∙ c.as_slice.ensures)
    (subst (λ (v : Placing). AreWants v c.args.wants.now) (sym c.placed.view_is) c.requires.wants)
