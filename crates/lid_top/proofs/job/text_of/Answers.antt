use Rattle.std.proofs.Common.{sym, subst}
use Rattle.lid_top_words.specs.declared.job.Job.{Job}
use Rattle.lid_top_script.specs.Scripts.{script_of}
use Rattle.lid_top_script.specs.Whole.{RunsBy}
use Rattle.lid_top_script.proofs.Fetched.{made_same, by_anywhere}
use Rattle.lid_top.proofs.Fetched.{gen_fetches_nothing}
use Rattle.lid_top.proofs.job.text_of.Goals as goal

pub returns-in-Gen : goal.returns-in-Gen
returns-in-Gen g c =
    let held = g.S.Shelf.held c.args.shelf.now in
    let calls = g.S.Shelf.fetches c.args.shelf.now in
    let faults = g.S.Shelf.faults c.args.shelf.now in
    subst (λ (job : Job). RunsBy g.S.Shelf.whole held held (script_of job) calls calls faults faults c.gen_text.result) (sym c.in-Gen.is)
    (by_anywhere made_same (gen_fetches_nothing _ _ _) c.gen_text.ensures)
