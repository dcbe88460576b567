-- The schedule is read for as many actors as there are, and its walk ends the script.
use Rattle.std.proofs.Common.{ℕ, List, subst}
use Rattle.lid_stations.specs.Placements.{links_of}
use Rattle.lid_stations.specs.Stations.{actor_count}
use Rattle.lid_top_script.specs.Causes.{Got, Misses}
use Rattle.lid_top_script.specs.Outputs.{IsTextOf, walked}
use Rattle.lid_top_script.specs.Scripts.{Script, Reading, end, gives, text_limit, schedule_read, schedule_script}
use Rattle.lid_top_script.proofs.Fetched.{made_read, by_given, stopped_here}
use Rattle.lid_top_held.specs.declared.run.Fed.{Fed}
use Rattle.lid_top_held.proofs.walking.walked_text.Goals as goal

abbrev next : Fed → List ℕ → Script
next f list = end (gives (walked f.wrapped.now.design (links_of f.wrapped.now.system) f.wrapped.now.placement f.rows.now.rows list))

abbrev read_by : Fed → List ℕ → Reading (List ℕ)
read_by f = schedule_read (actor_count (links_of f.wrapped.now.system) f.wrapped.now.placement)

pub returns-in-Ok-lines_text : goal.returns-in-Ok-lines_text
unfolding schedule_script
returns-in-Ok-lines_text g c =
    let f = c.args.fed.now in
    let held = g.S.Shelf.held c.args.shelf.now in
    let got = subst (λ (n : ℕ). Got held c.args.schedule.now text_limit (schedule_read n) c.in-Ok.list) c.actors_of-actors.ensures c.in-Ok.ensures.ok in
    by_given (made_read {read = read_by f} (next f) c.in-Ok.list got c.in-Ok.ensures.fetched c.in-Ok.ensures.kept)
    (subst (λ list. IsTextOf (walked f.wrapped.now.design (links_of f.wrapped.now.system) f.wrapped.now.placement f.rows.now.rows list) c.in-Ok-lines_text.text.items) c.as_slice.ensures c.in-Ok-lines_text.ensures)
    tt

pub returns-in-Ok : goal.returns-in-Ok
unfolding schedule_script
returns-in-Ok g c =
    let f = c.args.fed.now in
    let held = g.S.Shelf.held c.args.shelf.now in
    let got = subst (λ (n : ℕ). Got held c.args.schedule.now text_limit (schedule_read n) c.in-Ok.list) c.actors_of-actors.ensures c.in-Ok.ensures.ok in
    by_given (made_read {read = read_by f} (next f) c.in-Ok.list got c.in-Ok.ensures.fetched c.in-Ok.ensures.kept) tt tt

pub returns : goal.returns
unfolding schedule_script
returns g c =
    let f = c.args.fed.now in
    let held = g.S.Shelf.held c.args.shelf.now in
    let before = g.S.Shelf.faults c.args.shelf.now in
    let after = g.S.Shelf.faults c.read_file.new.shelf in
    stopped_here (read_by f) (next f)
    (subst (λ (n : ℕ). Misses held c.args.schedule.now text_limit (schedule_read n) before after c.in-Err.stop) c.actors_of-actors.ensures c.in-Err.ensures.err)
    c.in-Err.ensures.fetched c.in-Err.ensures.kept c.in-Err.ensures.grows
