use Rattle.std.proofs.Common.{subst}
use Rattle.lid_design.specs.Models.{HasNoRecursion}
use Rattle.lid_check_hierarchy.proofs.survey.Survey.design.Goals as goal

pub returns-clause-flat : goal.returns-clause-flat
returns-clause-flat c = subst HasNoRecursion c.self.view_is c.self.invariant.flat
