use Rattle.std.proofs.Common.{arith}
use Rattle.lid_strict_widths.proofs.Going.{place_within, step_there}
use Rattle.lid_strict_widths.proofs.settling.step_at.Goals as goal

pub index-requires-2 : goal.index-requires-2
index-requires-2 c =
    let many = c.args.x.now.program.steps.ok.0 in
    let place = place_within c.args.x.now c.args.i c.index.result.now c.requires.is c.requires.within c.index.ensures in
    omega arith

pub returns : goal.returns
returns c = step_there c.args.x.now c.args.i c.index.result.now c.index-2.result.now c.requires.is c.requires.within c.index.ensures c.index-2.ensures
