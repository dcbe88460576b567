use Rattle.lid_free.proofs.run.free_run_over.Goals as goal

pub run_out-requires-clause-some : goal.run_out-requires-clause-some
run_out-requires-clause-some g c κs within =
    let m = c.in_ok-setting.ensures.setup in
    (m.0, c.args.workers, c.in_ok-setting.ensures.set m.0 m.1)

pub returns : goal.returns
returns g c = λ m of. c.run_out.ensures m c.args.workers (c.in_ok-setting.ensures.set m of)
