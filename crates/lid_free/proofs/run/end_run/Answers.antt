use Rattle.std.proofs.Common.{◌≡◌, ℕ, ◌+◌, length, map, refl, sym, ◌∙◌, ap}
use Rattle.std.specs.Vec.{with_items}
use Rattle.std.proofs.lemmas.List.{with_items_is, length-map}
use Rattle.lid_station.specs.declared.pair.Pair.{Pair}
use Rattle.lid_shell.specs.declared.actor.Actor.{Actor}
use Rattle.lid_walk_machine.specs.Setups.{plan}
use Rattle.lid_walk_machine.specs.Machine.{sweeps}
use Rattle.lid_free.specs.FreeRuns.{state_of_counts}
use Rattle.lid_free.specs.Workers.{fired_of}
use Rattle.lid_free.proofs.Ended.{ending}
use Rattle.lid_free.proofs.run.end_run.Goals as goal

pub returns : goal.returns
returns c = λ m workers made g.
    let (m0, w0, made0, g0, f0, p0) = c.requires in
    let pairs = c.args.left.plain.pairs.items in
    let actors = c.args.left.actors.items in
    let st = state_of_counts (fired_of actors) in
    let walks = c.adopt-walk.ensures m st g.rules g.actors_are g.board in
    let settled = c.settle-sweeps.ensures m st walks (λ v h. refl) in
    let fired : c.note_fired.new.fired ≡ fired_of actors = c.note_fired.ensures ∙ ap fired_of c.as_slice.ensures.value in
    let passed : c.note_passed.new.passed ≡ map (λ (p : Pair). p.taken) pairs = c.note_passed.ensures ∙ ap (map (λ (p : Pair). p.taken)) c.as_slice-2.ensures.value in
    let fired_all = c.from_vec-2.ensures ∙ with_items_is c.args.room.fired c.note_fired.new.fired (ap length fired ∙ length-map actors (λ (a : Actor). a.desk.fired) ∙ sym f0 ∙ sym c.args.room.fired.ok.0) ∙ fired in
    let passed_all = c.from_vec-3.ensures ∙ with_items_is c.args.room.passed c.note_passed.new.passed (ap length passed ∙ length-map pairs (λ (p : Pair). p.taken) ∙ sym p0 ∙ sym c.args.room.passed.ok.0) ∙ passed in
    ending m workers made pairs actors c.args.room.tallies.items g c.settle-sweeps.result c.settle-sweeps.new.walk settled _
    (c.into_rows.ensures m (sweeps (plan m) st c.settle-sweeps.result.count) settled.swept.walks)
    c.from_vec.ensures fired_all passed_all refl refl
