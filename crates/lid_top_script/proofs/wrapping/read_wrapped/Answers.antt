use Rattle.std.proofs.Common.{inl, inr, sym, subst}
use Rattle.lid_top_script.specs.Causes.{GotSystem}
use Rattle.lid_top_script.specs.Wrapped.{Building}
use Rattle.lid_top_script.proofs.Placements.{misses_stations}
use Rattle.lid_top_script.proofs.Fetched.{wraps, wraps_not, wraps_in_part}
use Rattle.lid_top_script.proofs.wrapping.read_wrapped.Goals as goal

pub returns-in-Err-clause-err : goal.returns-in-Err-clause-err
returns-in-Err-clause-err g c = inl c.in-Err.ensures.err

pub returns-in-Err-clause-fetched : goal.returns-in-Err-clause-fetched
returns-in-Err-clause-fetched g c = wraps_not c.in-Err.ensures.err c.in-Err.ensures.fetched

pub returns-in-Ok-read_placement-clause-fetched : goal.returns-in-Ok-read_placement-clause-fetched
returns-in-Ok-read_placement-clause-fetched g c = wraps c.in-Ok.ensures.fetched c.in-Ok.ensures.kept c.in-Ok-read_placement.ensures.fetched

pub returns-clause-err : goal.returns-clause-err
returns-clause-err g c =
    let f = c.args.files.now in
    let held = g.S.Shelf.held c.args.shelf.now in
    let b : Building = record { design = c.built.inside.checked; system = c.built.inside.system } in
    let got = subst (λ (x : Building). GotSystem held f.net.now f.root.now x) (sym c.built.view_is) c.in-Ok.ensures.ok in
    inr (misses_stations held f.net.now f.stations.now f.root.now b got c.in-Ok.ensures.kept c.in-Ok.ensures.grows c.in-Err-read_placement.ensures.err)

pub returns-clause-fetched : goal.returns-clause-fetched
returns-clause-fetched g c =
    let f = c.args.files.now in
    let held = g.S.Shelf.held c.args.shelf.now in
    let b : Building = record { design = c.built.inside.checked; system = c.built.inside.system } in
    let got = subst (λ (x : Building). GotSystem held f.net.now f.root.now x) (sym c.built.view_is) c.in-Ok.ensures.ok in
    wraps_in_part c.in-Ok.ensures.fetched c.in-Ok.ensures.kept
    (misses_stations held f.net.now f.stations.now f.root.now b got c.in-Ok.ensures.kept c.in-Ok.ensures.grows c.in-Err-read_placement.ensures.err)
    c.in-Err-read_placement.ensures.fetched
