-- All is that of the plan.
use Rattle.std.proofs.Common.{subst}
use Rattle.lid_stations.specs.Placed.{Placing, IsPlaced}
use Rattle.lid_emit_layout.proofs.Framing.{all_is, all_sound}
use Rattle.lid_emit_shells.specs.Shells.{nets_of}
use Rattle.lid_emit_layout.proofs.layout.lay_out.Goals as goal

pub returns-clause-all : goal.returns-clause-all
returns-clause-all c =
    let placed : IsPlaced c.args.placed.now.system c.args.placed.now.placement = subst (λ (v : Placing). IsPlaced v.system v.placement) c.placed.view_is c.placed.invariant in
    all_is c.args.placed.now.system c.args.placed.now.placement c.args.shells placed.formed placed.fits c.requires.count c.in_ok-outer.field-0 (c.in_ok-outer.ensures (nets_of c.args.shells) c.in_ok-stations.ensures)

pub returns-clause-sound : goal.returns-clause-sound
returns-clause-sound c =
    let placed : IsPlaced c.args.placed.now.system c.args.placed.now.placement = subst (λ (v : Placing). IsPlaced v.system v.placement) c.placed.view_is c.placed.invariant in
    all_sound c.args.placed.now.system c.args.placed.now.placement c.args.shells placed.formed placed.fits c.requires.count c.in_ok-outer.field-0 (c.in_ok-outer.ensures (nets_of c.args.shells) c.in_ok-stations.ensures) c.requires.whole
