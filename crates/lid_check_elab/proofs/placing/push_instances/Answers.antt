use Rattle.std.proofs.Common.{◌≡◌, ◌+◌, ℕ, List, length, reverse, take, sym, ◌∙◌, ap, subst, arith}
use Rattle.std.proofs.lemmas.List.{take_all}
use Rattle.lid_design.specs.declared.Inst.{Inst}
use Rattle.lid_design.specs.Models.{insts_of}
use Rattle.lid_design.specs.Elaboration.{model_nets}
use Rattle.lid_check_elab.specs.Numbers.{over_insts, size_of, offset_of, weight_of}
use Rattle.lid_check_elab.specs.Scopes.{AreNext, weights}
use Rattle.lid_check_drivers.proofs.Shallow.{shallow_of}
use Rattle.lid_check_elab.proofs.Stacking.{size_sum, weight_sum}
use Rattle.lid_check_elab.proofs.placing.push_instances.Goals as goal

pub loop-i-init : goal.loop-i-init
loop-i-init c =
    let there = c.requires.there in
    let d = c.args.judged.now in
    let k = c.args.scope.model in
    let all : take (length c.args.offsets.now) (insts_of d k) ≡ insts_of d k = take_all (length c.args.offsets.now) (insts_of d k) (let f = c.requires.offsets.long in omega arith) in
    let size = size_sum d k (shallow_of d c.design.ensures.judged k (there.0, there.1.leads)) in
    let offset : offset_of d k (length c.args.offsets.now) ≡ size_of d k = ap (λ (is : List Inst). length (model_nets d k) + over_insts d (size_of d) is) all ∙ sym size in
    record {
      inside = omega arith;
      next = subst (λ (n : ℕ). AreNext d (c.args.scope.start + n) (reverse c.args.stack.now.items)) (sym offset) c.requires.after;
      heavy = ap (λ (is : List Inst). weights d (reverse c.args.stack.now.items) + over_insts d (weight_of d) is) all;
    }

pub returns-clause-lighter : goal.returns-clause-lighter
returns-clause-lighter c =
    let there = c.requires.there in
    let d = c.args.judged.now in
    let k = c.args.scope.model in
    let zero_i : c.loop-i.i ≡ 0 = (let f = c.loop-i-test.false in omega arith) in
    let none : over_insts d (weight_of d) (take c.loop-i.i (insts_of d k)) ≡ 0 = ap (λ (n : ℕ). over_insts d (weight_of d) (take n (insts_of d k))) zero_i in
    let weight = weight_sum d k (shallow_of d c.design.ensures.judged k (there.0, there.1.leads)) in
    let heavy = c.loop-i.invariant.heavy in
    omega arith
