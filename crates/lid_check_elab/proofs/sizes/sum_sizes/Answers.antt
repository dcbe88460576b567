use Rattle.std.proofs.Common.{◌≤◌, ◌+◌, length, ◌∙◌, arith}
use Rattle.lid_design.specs.Models.{insts_of}
use Rattle.lid_check_elab.proofs.Counting.{offset_after, offset_small, offset_end}
use Rattle.lid_check_elab.proofs.sizes.sum_sizes.Goals as goal

pub overflow_add-size : goal.overflow_add-size
overflow_add-size c =
    let few = offset_small c.args.judged.now c.design.ensures.judged c.args.model c.requires.reached (c.loop-inst.inst + 1) in
    let next = offset_after c.args.judged.now c.args.model c.loop-inst.inst c.loop-inst.size c.inst_size-size.result c.loop-inst.invariant c.inst_size-size.ensures in
    omega arith

pub loop-inst-preserved : goal.loop-inst-preserved
loop-inst-preserved c = offset_after c.args.judged.now c.args.model c.loop-inst.inst c.loop-inst.size c.inst_size-size.result c.loop-inst.invariant c.inst_size-size.ensures

pub returns : goal.returns
returns c =
    let past : length (insts_of c.args.judged.now c.args.model) ≤ c.loop-inst.inst = let f = c.loop-inst-test.false in let e = c.count_insts-inst-end.ensures in omega arith in
    c.loop-inst.invariant ∙ offset_end c.args.judged.now c.design.ensures.judged c.args.model c.requires.reached c.loop-inst.inst past
