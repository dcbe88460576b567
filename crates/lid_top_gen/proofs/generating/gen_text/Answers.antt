use Rattle.std.proofs.Common.{sym, subst}
use Rattle.lid_top_script.specs.Causes.{IsCause}
use Rattle.lid_top_script.specs.Scripts.{gen_script}
use Rattle.lid_top_gen.proofs.Endings.{gen_has_text, gen_has_cause}
use Rattle.lid_top_gen.proofs.generating.gen_text.Goals as goal

pub returns-in-Err : goal.returns-in-Err
returns-in-Err c = record {
  ok = tt;
  err = λ held before after.
      subst (IsCause held (gen_script c.args.seed c.args.shells c.args.run.now) before after) (sym c.gen_stop.ensures)
      (gen_has_cause held c.args.seed c.args.shells c.args.run.now before after c.in-Err.fault c.in-Err.ensures.err);
}

pub returns-in-Ok-made_text : goal.returns-in-Ok-made_text
returns-in-Ok-made_text c = record {
  ok = λ held. gen_has_text held c.args.seed c.args.shells c.args.run.now c.in-Ok-made_text.text.items c.in-Ok.ensures.ok.0 c.in-Ok-made_text.ensures;
  err = tt;
}
