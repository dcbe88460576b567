use Rattle.std.proofs.Common.{refl, sym, subst}
use Rattle.std.specs.Option.{IsNone}
use Rattle.lid_base.proofs.Results.{if_ok}
use Rattle.lid_rate_ratio.proofs.rating.rate_by.Goals as goal

pub returns-in-None-clause-taken : goal.returns-in-None-clause-taken
returns-in-None-clause-taken c = if_ok c.search.result (λ rate is right. absurd (c.in_ok-ratio.ensures.none (subst IsNone (sym c.in-None.is) refl) right)) c.search.ensures
