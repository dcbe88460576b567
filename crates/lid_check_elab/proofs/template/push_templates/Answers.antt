use Rattle.std.proofs.Common.{◌<◌, arith}
use Rattle.lid_check_elab.proofs.Counting.{model_below}
use Rattle.lid_check_elab.proofs.Binding.{templates_next}
use Rattle.lid_check_elab.proofs.template.push_templates.Goals as goal

pub loop-model-preserved : goal.loop-model-preserved
loop-model-preserved c = record {
  long = (let a = c.in_ok-push.ensures.len in let b = c.loop-model.invariant.long in omega arith);
  each = templates_next c.args.judged.now c.loop-model.templates.items c.push.new.self.items c.in_ok-template.template c.loop-model.model c.loop-model.invariant.long c.in_ok-push.ensures.items c.in_ok-template.ensures c.loop-model.invariant.each;
}

pub returns : goal.returns
returns c k reached =
    let d = c.args.judged.now in
    let below : k < c.loop-model.model = (let a = model_below d c.design.ensures.judged k reached in let f = c.loop-model-test.false in let e = c.loop-model.auto.model-end in let l = c.requires.sizes.long in omega arith) in
    c.loop-model.invariant.each k below reached
