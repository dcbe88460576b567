use Rattle.lid_vcd_form.proofs.Cuts.{end_at_none, end_at_some}
use Rattle.lid_vcd_form.proofs.words.find_end.Goals as goal

pub returns-in-None-clause-at : goal.returns-in-None-clause-at
returns-in-None-clause-at c = end_at_none c.args.bytes.now c.in-None.ensures

pub returns-in-Some-clause-at : goal.returns-in-Some-clause-at
returns-in-Some-clause-at c = end_at_some c.args.bytes.now c.in-Some.end c.in-Some.ensures
