use Rattle.std.proofs.Common.{sym, subst}
use Rattle.lid_design.specs.declared.Design.{Design}
use Rattle.lid_design.specs.Models.{HasNoRecursion}
use Rattle.lid_check_rules.specs.Told.{IsToldOf}
use Rattle.lid_check_models.proofs.models.judge_survey.Goals as goal

pub judge_ports-requires-clause-flat : goal.judge_ports-requires-clause-flat
judge_ports-requires-clause-flat c = subst HasNoRecursion (sym c.in-Ok.ensures.ports) c.collect.ensures.flat

pub returns-clause-err : goal.returns-clause-err
returns-clause-err c = subst (λ (d : Design). IsToldOf d c.in-Err-judge_ports.told) c.in-Ok.ensures.ports c.in-Err-judge_ports.ensures.err
