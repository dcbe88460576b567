use Rattle.std.proofs.Common.{◌∙◌, sym, subst}
use Rattle.lid_stations.specs.Placements.{links_of}
use Rattle.lid_stations_text.specs.Places.{AreFirstLines}
use Rattle.lid_stations_text.proofs.Fitting.{sound_places, is_read, fits, told_ok, told_err, told_fits}
use Rattle.lid_stations_text.proofs.building.build.Goals as goal

pub build_from-requires-clause-sound : goal.build_from-requires-clause-sound
build_from-requires-clause-sound c =
    let l = links_of c.args.system.now in
    sound_places l c.args.form c.args.lines.now c.as_slice.result.now c.in-Ok.ensures.ok (subst (AreFirstLines l c.args.lines.now) (sym c.as_slice.ensures.value) c.in-Ok.ensures.placed)

pub returns-in-Ok-build_from-clause-ok : goal.returns-in-Ok-build_from-clause-ok
returns-in-Ok-build_from-clause-ok c =
    let l = links_of c.args.system.now in
    let placed = subst (AreFirstLines l c.args.lines.now) (sym c.as_slice.ensures.value) c.in-Ok.ensures.placed in
    told_ok _ c.whole.result (is_read l c.args.form c.args.lines.now _ _ c.in-Ok.ensures.ok placed c.in-Ok-build_from.ensures ∙ sym c.whole.ensures)

pub returns-in-Ok-build_from-clause-err : goal.returns-in-Ok-build_from-clause-err
returns-in-Ok-build_from-clause-err c =
    let l = links_of c.args.system.now in
    let placed = subst (AreFirstLines l c.args.lines.now) (sym c.as_slice.ensures.value) c.in-Ok.ensures.placed in
    told_err _ c.whole.result (is_read l c.args.form c.args.lines.now _ _ c.in-Ok.ensures.ok placed c.in-Ok-build_from.ensures ∙ sym c.whole.ensures)

pub returns-in-Ok-build_from-clause-fits : goal.returns-in-Ok-build_from-clause-fits
returns-in-Ok-build_from-clause-fits c =
    let l = links_of c.args.system.now in
    let placed = subst (AreFirstLines l c.args.lines.now) (sym c.as_slice.ensures.value) c.in-Ok.ensures.placed in
    told_fits c.args.system.now c.in-Ok-build_from.placement c.whole.result c.whole.ensures (fits c.args.system.now c.args.form c.args.lines.now _ _ c.in-Ok.ensures.ok placed c.in-Ok-build_from.ensures)
