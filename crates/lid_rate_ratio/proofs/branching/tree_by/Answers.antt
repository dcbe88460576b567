use Rattle.lid_base.proofs.Results.{if_ok}
use Rattle.lid_rate_ratio.proofs.branching.tree_by.Goals as goal

pub returns-clause-taken : goal.returns-clause-taken
returns-clause-taken c = if_ok c.sweep.result (λ tree is right. absurd (let yes = c.spans.ensures.1 right in let no = c.if-spans.false in cc)) c.sweep.ensures
