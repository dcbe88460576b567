use Rattle.std.proofs.Common.{inr, sym, subst}
use Rattle.lid_design.specs.declared.Design.{Design}
use Rattle.lid_check_rules.specs.Acceptance.{ModelsPass}
use Rattle.lid_check_loops.specs.declared.flaws.Verdict.{Verdict}
use Rattle.lid_check_loops.specs.Flaws.{IsVerdict, IsFirstFlaw, TellsFlaw}
use Rattle.lid_check.proofs.Refusing.{told_refuses}
use Rattle.lid_check.proofs.judging.judge_columns.Goals as goal

pub findings_of-requires-clause-accepted : goal.findings_of-requires-clause-accepted
findings_of-requires-clause-accepted c =
    let sound = subst (λ (v : Verdict). IsVerdict c.args.columns.now.design c.args.columns.now.drivers v) c.in-Sound.is c.in_ok-order.ensures in
    record { models = subst ModelsPass c.judged.ensures.same c.design.ensures.judged.pass; loops = sound.0; outputs = sound.1 }

pub findings_of-requires-clause-order : goal.findings_of-requires-clause-order
findings_of-requires-clause-order c = (subst (λ (v : Verdict). IsVerdict c.args.columns.now.design c.args.columns.now.drivers v) c.in-Sound.is c.in_ok-order.ensures).2

pub tell_flaw-requires : goal.tell_flaw-requires
tell_flaw-requires c =
    let told = subst (λ (v : Verdict). IsVerdict c.args.columns.now.design c.args.columns.now.drivers v) c.in-Flawed.is c.in_ok-order.ensures in
    subst (λ (d : Design). IsFirstFlaw d c.in-Flawed.flaw) (sym c.judged-in-Flawed.ensures.same) told

pub returns-in_ok-tell_flaw-in-Flawed-clause-err : goal.returns-in_ok-tell_flaw-in-Flawed-clause-err
returns-in_ok-tell_flaw-in-Flawed-clause-err c =
    let pass = subst ModelsPass c.judged.ensures.same c.design.ensures.judged.pass in
    let told = subst (λ (d : Design). TellsFlaw d c.in_ok-tell_flaw-in-Flawed.field-0) c.judged-in-Flawed.ensures.same c.in_ok-tell_flaw-in-Flawed.ensures in
    inr (told_refuses c.args.columns.now.design _ pass told)
