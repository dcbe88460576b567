use Rattle.std.proofs.Common.{◌<◌, Option, length, get_or, subst, arith}
use Rattle.std.proofs.lemmas.Option.{slice_get_within}
use Rattle.lid_check_loops.specs.declared.outputs.Lead.{Lead}
use Rattle.lid_check_loops.specs.Flaws.{FindsLead}
use Rattle.lid_check_loops.proofs.Leads.{no_pearl, pearl_at, fits_at, none_more, none_depends, first_dependence}
use Rattle.lid_check_loops.proofs.outputs.find_in_pearls.Goals as goal

pub find_lead-requires-clause-fits : goal.find_lead-requires-clause-fits
find_lead-requires-clause-fits c =
    fits_at c.args.survey.now c.args.graph.now.reads.now c.args.cut.now c.args.reached.now c.args.pearls.now c.requires.apart c.loop-p.p (get_or c.args.pearls.now c.loop-p.p no_pearl) (pearl_at c.args.pearls.now c.loop-p.p c.loop-p-test.true)

pub find_lead-requires-clause-marks : goal.find_lead-requires-clause-marks
find_lead-requires-clause-marks c =
    c.requires.apart.marks c.loop-p.p (get_or c.args.pearls.now c.loop-p.p no_pearl) (pearl_at c.args.pearls.now c.loop-p.p c.loop-p-test.true)

pub loop-p-preserved : goal.loop-p-preserved
loop-p-preserved c =
    let none = subst (λ (o : Option Lead). FindsLead c.args.survey.now c.args.graph.now.reads.now c.args.cut.now (get_or c.args.pearls.now c.loop-p.p no_pearl) o) c.in-None.is c.in_ok-lead.ensures in
    none_more c.args.survey.now c.args.graph.now.reads.now c.args.cut.now c.args.reached.now c.args.pearls.now c.requires.apart c.loop-p.p (get_or c.args.pearls.now c.loop-p.p no_pearl) (pearl_at c.args.pearls.now c.loop-p.p c.loop-p-test.true) c.loop-p.invariant none

pub returns-in-Some : goal.returns-in-Some
returns-in-Some c =
    let lead = subst (λ (o : Option Lead). FindsLead c.args.survey.now c.args.graph.now.reads.now c.args.cut.now (get_or c.args.pearls.now c.loop-p.p no_pearl) o) c.in-Some.is c.in_ok-lead.ensures in
    first_dependence c.args.survey.now c.args.graph.now.reads.now c.args.cut.now c.args.reached.now c.args.pearls.now c.requires.apart c.loop-p.p (get_or c.args.pearls.now c.loop-p.p no_pearl) (pearl_at c.args.pearls.now c.loop-p.p c.loop-p-test.true) c.loop-p.invariant c.in-Some.lead lead

pub returns : goal.returns
returns c =
    let ps = c.args.pearls.now in
    let end = c.loop-p-test.false in
    none_depends c.args.survey.now c.args.graph.now.reads.now c.args.cut.now c.args.reached.now ps c.requires.apart
    (λ p pearl here. let within : p < length ps = slice_get_within ps p pearl here in let below : p < c.loop-p.p = omega arith in c.loop-p.invariant p pearl below here)
