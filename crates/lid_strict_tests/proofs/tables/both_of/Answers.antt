use Rattle.std.proofs.Common.{◌≤◌, ◌∙◌, arith}
use Rattle.lid_strict_tests.proofs.Nets.{so_many, all_below}
use Rattle.lid_strict_tests.proofs.tables.both_of.Goals as goal

pub push-requires-clause-width : goal.push-requires-clause-width
push-requires-clause-width c = so_many c.as_slice.result.now c.args.one.now.inputs (c.as_slice.ensures.value ∙ c.in_ok-nets.ensures)

pub push-requires-clause-ins : goal.push-requires-clause-ins
push-requires-clause-ins c =
    let few : c.args.one.now.inputs ≤ c.new-program.result.nets = omega (arith, c.new-program.ensures.nets) in
    all_below c.as_slice.result.now c.args.one.now.inputs c.new-program.result.nets (c.as_slice.ensures.value ∙ c.in_ok-nets.ensures) few

pub push-requires-2-clause-width : goal.push-requires-2-clause-width
push-requires-2-clause-width c =
    c.requires.same ∙ so_many c.as_slice-2.result.now c.args.one.now.inputs (c.as_slice-2.ensures.value ∙ c.in_ok-nets.ensures)

pub push-requires-2-clause-ins : goal.push-requires-2-clause-ins
push-requires-2-clause-ins c =
    let few : c.args.one.now.inputs ≤ c.push.new.self.nets = omega (arith, c.new-program.ensures.nets, c.push.ensures.nets) in
    all_below c.as_slice-2.result.now c.args.one.now.inputs c.push.new.self.nets (c.as_slice-2.ensures.value ∙ c.in_ok-nets.ensures) few
