use Rattle.std.proofs.Common.{sym, subst}
use Rattle.lid_top_script.specs.Causes.{GotSystem}
use Rattle.lid_top_script.specs.Scripts.{place_script, wires_script}
use Rattle.lid_top_script.specs.Wrapped.{Building}
use Rattle.lid_top_script.proofs.Fetched.{made_built, by_within, stopped_unbuilt}
use Rattle.lid_top_whole.proofs.place.place_text.Goals as goal

pub returns-in-Ok : goal.returns-in-Ok
unfolding place_script
returns-in-Ok g c =
    let b : Building = record { design = c.built.inside.checked; system = c.built.inside.system } in
    let got = subst (λ (x : Building). GotSystem (g.S.Shelf.held c.args.shelf.now) c.args.net.now c.args.root.now x) (sym c.built.view_is) c.in-Ok.ensures.ok in
    by_within (made_built (λ d l. wires_script l c.args.wires.now c.args.reach) b got c.in-Ok.ensures.fetched c.in-Ok.ensures.kept) c.wires_text.ensures

pub returns-in-Err : goal.returns-in-Err
unfolding place_script
returns-in-Err g c = stopped_unbuilt _ (λ d l. wires_script l c.args.wires.now c.args.reach) c.in-Err.ensures.err c.in-Err.ensures.fetched c.in-Err.ensures.kept c.in-Err.ensures.grows
