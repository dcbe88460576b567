use Rattle.lid_texts_packed.specs.Input.{input_of}
use Rattle.lid_walk.proofs.Opening.{setup_of}
use Rattle.lid_free.proofs.setting.set_out.Goals as goal

pub returns-clause-setup : goal.returns-clause-setup
returns-clause-setup c =
    let q = c.requires in
    setup_of c.args.system.now c.args.placement.now (input_of c.args.rows) q.system q.fits q.few q.wide (c.runs_go_by_rules.ensures.some c.args.system.now q.system)
